use Rattle.std.proofs.Common.{refl, ap, arith, []}
use Rattle.wasm_ast.specs.Syntax.{stop, next}
use Rattle.step_machine.specs.Configuration.{Configuration}
use Rattle.step_machine.specs.Worked.{drop', empty_store}
use Rattle.step_machine.proofs.InstructionTurns.{yields, yields_too_much}
use Rattle.step_machine.proofs.worked_calls.results_are_limited.Goals as goal

pub returns-clause-beyond : goal.returns-clause-beyond
returns-clause-beyond c p vs is h =
    ap (λ (d : Configuration). d.state) (yields_too_much p empty_store 1 0 0 [] vs (next drop' stop) is (omega arith))

pub returns-clause-within : goal.returns-clause-within
returns-clause-within c p vs is h =
    ap (λ (d : Configuration). d.state)
    (yields p empty_store 1 0 0 [] vs (next drop' stop) is (omega arith) drop' stop refl)
