use Rattle.std.proofs.Common.{◌≡◌, ◌≤◌, ◌+◌, length}
use Rattle.text_assembler.specs.Modules.{declare_fields, no_scopes}
use Rattle.text_assembler.proofs.declare.declare_fields.Given as goal

abbrev pub invariant-loop-rest : goal.invariant-loop-rest
invariant-loop-rest l =
    (l.depth + length l.rest ≤ length l.tokens)
    × (declare_fields l.depth l.scopes l.rest ≡ declare_fields 0 no_scopes l.tokens)

abbrev pub decreases-loop-rest : goal.decreases-loop-rest
decreases-loop-rest l = length l.rest
