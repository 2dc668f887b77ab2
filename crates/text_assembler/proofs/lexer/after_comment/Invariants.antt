use Rattle.std.proofs.Common.{◌≡◌, ◌<◌, ◌≤◌, ◌+◌, length}
use Rattle.text_assembler.specs.Tokens.{after_comment}
use Rattle.text_assembler.proofs.lexer.after_comment.Given as goal

abbrev pub invariant-loop-first : goal.invariant-loop-first
invariant-loop-first l =
    (0 < l.depth) × (l.depth + length l.rest ≤ length l.bytes + 1)
    × (after_comment l.depth l.rest ≡ after_comment 1 l.bytes)

abbrev pub decreases-loop-first : goal.decreases-loop-first
decreases-loop-first l = length l.rest
