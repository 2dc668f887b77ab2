use Rattle.std.proofs.Common.{◌≡◌, length}
use Rattle.text_assembler.specs.Instructions.{are_nameless}
use Rattle.text_assembler.proofs.ids.Ids.are_nameless.Given as goal

abbrev pub invariant-loop-rest : goal.invariant-loop-rest
invariant-loop-rest l = are_nameless l.rest ≡ are_nameless l.self

abbrev pub decreases-loop-rest : goal.decreases-loop-rest
decreases-loop-rest l = length l.rest
