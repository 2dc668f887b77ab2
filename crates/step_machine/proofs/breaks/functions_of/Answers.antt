use Rattle.std.proofs.Common.{true, ◌∙◌, arith}
use Rattle.std.proofs.lemmas.List.{length-set}
use Rattle.wasm_ast.specs.declared.place.Place.{Place}
use Rattle.step_machine.specs.Inside.Marks.{function_mark_of}
use Rattle.step_machine.proofs.MarkLemmas.{next_marked}
use Rattle.step_machine.proofs.breaks.functions_of.Goals as goal

abbrev none : Place
none = record { func = 0; instr = 0 }

pub loop-place-preserved : goal.loop-place-preserved
loop-place-preserved c = record {
  all = length-set c.loop-place.marks c.function_of.result true ∙ c.loop-place.invariant.all;
  marked = λ func place is.
      let all = c.loop-place.invariant.all in
      let inside = c.function_of.ensures.inside in
      next_marked (λ func place. function_mark_of func) c.args.places.now c.loop-place.place-index none
      c.loop-place.marks c.function_of.result
      c.function_of.ensures.is c.loop-place-test.true (omega (arith, all, inside)) func place
      (c.loop-place.invariant.marked func place is);
}
