use Rattle.std.proofs.Common.{◌≡◌, refl, true, false, IfOk, sym, ◌∙◌, subst, rules}
use Rattle.wasm_ast.specs.declared.place.Place.{Place}
use Rattle.step_machine.specs.Slices.{is_among}
use Rattle.task_lifecycle.specs.declared.lifecycle.TaskCall.TheVariants as call
use Rattle.task_board.specs.declared.mark.Mark.TheVariants as mark
use Rattle.task_board.specs.Inside.Marks.{mark_ask}
use Rattle.task_board.specs.Inside.Plans.{IsAccepted, PlansAsk}
use Rattle.task_board.proofs.AskLemmas.{place_refused, place_accepted, unbreak_rest}
use Rattle.task_board.proofs.task.Task.plan_unbreak.Goals as goal

pub returns-in-Err : goal.returns-in-Err
returns-in-Err c =
    let t = c.args.self.now in
    place_refused t c.args.func c.args.place call.Unbreak (unbreak_rest c.args.func c.args.place t) c.in-Err.refusal
    c.in-Err.ensures.err

pub returns-then-not-has : goal.returns-then-not-has
returns-then-not-has c =
    let t = c.args.self.now in
    let off : is_among t.breaks c.args.func c.args.place ≡ false = search rules in (
      λ h. cc,
      place_accepted t c.args.func c.args.place call.Unbreak (unbreak_rest c.args.func c.args.place t)
          c.in-Ok.ensures.ok.1 ∙ rw off refl,
    )

pub plan_mark-requires : goal.plan_mark-requires
plan_mark-requires c =
    let t = c.args.self.now in
    let on : is_among t.breaks c.args.func c.args.place ≡ true = search rules in
    subst (λ (p : Place). IsAccepted (mark_ask (mark.Remove p)) t) (sym c.in-Ok.ensures.ok.0)
    (place_accepted t c.args.func c.args.place call.Unbreak (unbreak_rest c.args.func c.args.place t)
    c.in-Ok.ensures.ok.1 ∙ rw on refl)

pub returns : goal.returns
returns c =
    subst
    (λ (p : Place). IfOk c.plan_mark.result
    (PlansAsk c.args.self.now c.args.slot c.args.id (mark_ask (mark.Remove p))))
    c.in-Ok.ensures.ok.0 c.plan_mark.ensures
