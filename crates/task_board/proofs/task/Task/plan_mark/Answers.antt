use Rattle.std.proofs.Common.{◌≤◌, List, length, refl, sym, ap, ◌∙◌, subst}
use Rattle.wasm_ast.specs.declared.place.Place.{Place}
use Rattle.step_machine.specs.Limits.{max_breakpoints}
use Rattle.task_board.specs.Inside.Marks.{marked_places}
use Rattle.task_board.proofs.MarkLemmas.{few_after}
use Rattle.task_board.proofs.task.Task.plan_mark.Goals as goal

pub breaks-requires : goal.breaks-requires
breaks-requires c =
    let t = c.args.self.now in
    let few : length t.breaks ≤ max_breakpoints =
    subst (λ (bs : List Place). length bs ≤ max_breakpoints)
    (c.as_slice-few.ensures.places ∙ c.breaks-now.ensures) c.as_slice-few.ensures.few in
    subst (λ (bs : List Place). length (marked_places c.args.mark bs) ≤ max_breakpoints) (sym c.breaks-now.ensures)
    (few_after c.args.mark t few c.requires)

pub returns : goal.returns
returns c =
    let places = ap (marked_places c.args.mark) c.breaks-now.ensures in (
      refl,
      c.requires,
      (refl, refl),
      c.in_ok-breaks.ensures.0 ∙ places,
      c.in_ok-breaks.ensures.1 ∙ places,
    )
