use Rattle.std.proofs.Common.{◌≡◌, refl, ◌≤◌, ◌<◌, length, true, false, IfOk, sym, ◌∙◌, subst, rules}
use Rattle.wasm_ast.specs.declared.place.Place.{Place}
use Rattle.step_machine.specs.Limits.{max_breakpoints}
use Rattle.step_machine.specs.Slices.{is_among}
use Rattle.task_lifecycle.specs.declared.lifecycle.TaskCall.TheVariants as call
use Rattle.task_board.specs.declared.mark.Mark.TheVariants as mark
use Rattle.task_board.specs.Inside.Marks.{mark_ask}
use Rattle.task_board.specs.Inside.Plans.{IsAccepted, PlansAsk}
use Rattle.task_board.proofs.AskLemmas.{place_refused, place_accepted, break_rest, is_full, has_room}
use Rattle.task_board.proofs.task.Task.plan_break.Goals as goal

pub returns-in-Err : goal.returns-in-Err
returns-in-Err c =
    let t = c.args.self.now in
    place_refused t c.args.func c.args.place call.Break (break_rest c.args.func c.args.place t) c.in-Err.refusal
    c.in-Err.ensures.err

pub returns-then-has : goal.returns-then-has
returns-then-has c =
    let t = c.args.self.now in
    let on : is_among t.breaks c.args.func c.args.place ≡ true = search rules in (
      λ h. cc,
      place_accepted t c.args.func c.args.place call.Break (break_rest c.args.func c.args.place t)
          c.in-Ok.ensures.ok.1 ∙ rw on refl,
    )

pub returns-then-as_slice-ge-MAX_BREAKPOINTS : goal.returns-then-as_slice-ge-MAX_BREAKPOINTS
returns-then-as_slice-ge-MAX_BREAKPOINTS c =
    let t = c.args.self.now in
    let off : is_among t.breaks c.args.func c.args.place ≡ false = search rules in
    let many : max_breakpoints ≤ length t.breaks = search rules in
    let full = is_full t.breaks many in (
      λ h. cc,
      place_accepted t c.args.func c.args.place call.Break (break_rest c.args.func c.args.place t)
          c.in-Ok.ensures.ok.1 ∙ rw (off, full) refl,
    )

pub plan_mark-requires : goal.plan_mark-requires
plan_mark-requires c =
    let t = c.args.self.now in
    let off : is_among t.breaks c.args.func c.args.place ≡ false = search rules in
    let few : length t.breaks < max_breakpoints = search rules in
    let room = has_room t.breaks few in
    subst (λ (p : Place). IsAccepted (mark_ask (mark.Set p)) t) (sym c.in-Ok.ensures.ok.0)
    (place_accepted t c.args.func c.args.place call.Break (break_rest c.args.func c.args.place t)
    c.in-Ok.ensures.ok.1 ∙ rw (off, room) refl)

pub returns : goal.returns
returns c =
    subst
    (λ (p : Place). IfOk c.plan_mark.result
    (PlansAsk c.args.self.now c.args.slot c.args.id (mark_ask (mark.Set p))))
    c.in-Ok.ensures.ok.0 c.plan_mark.ensures
