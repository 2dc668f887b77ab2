use Rattle.std.proofs.Common.{◌∷◌, [], arith}
use Rattle.wasm_ast.specs.declared.values.Value.TheVariants as value
use Rattle.wasm_ast.specs.Syntax.{stop, next}
use Rattle.step_machine.specs.Configuration.{seq, done, more, frame, items_of}
use Rattle.step_machine.specs.Worked.{drop'}
use Rattle.step_machine.proofs.TreeLimits.{within, beyond}
use Rattle.step_machine.proofs.worked.values_are_limited.Goals as goal

pub returns-clause-beyond : goal.returns-clause-beyond
returns-clause-beyond c p vs n h =
    rw (beyond (seq [] (more (frame 0 1 [] (seq (value.I32 n ∷ vs) (items_of 1 (next drop' stop)))) done))
    (omega arith) (omega arith))

pub returns-clause-within : goal.returns-clause-within
returns-clause-within c p vs n h =
    rw (within (seq [] (more (frame 0 1 [] (seq (value.I32 n ∷ vs) (items_of 1 (next drop' stop)))) done))
    (omega arith) (omega arith))
