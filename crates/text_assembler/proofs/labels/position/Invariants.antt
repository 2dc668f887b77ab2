use Rattle.std.proofs.Common.{◌≡◌, ◌+◌, ◌≤◌, length, reverse}
use Rattle.text_assembler.specs.Names.{position}
use Rattle.text_assembler.proofs.labels.position.Given as goal

abbrev pub invariant-loop-rest : goal.invariant-loop-rest
invariant-loop-rest l =
    (l.before + length l.rest ≤ length l.ids)
    × (position l.before l.name (reverse l.rest) ≡ position 0 l.name (reverse l.ids))

abbrev pub decreases-loop-rest : goal.decreases-loop-rest
decreases-loop-rest l = length l.rest
