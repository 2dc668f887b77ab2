use Rattle.std.proofs.Common.{◌≡◌, length}
use Rattle.wasm_ast.specs.Types.{are_same_types}
use Rattle.text_assembler.proofs.phrases.first_other.Given as goal

abbrev pub invariant-loop-due : goal.invariant-loop-due
invariant-loop-due l = are_same_types l.due l.rest ≡ are_same_types l.wanted l.written

abbrev pub decreases-loop-due : goal.decreases-loop-due
decreases-loop-due l = length l.due
