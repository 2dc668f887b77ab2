use Rattle.std.proofs.Common.{◌≡◌, length}
use Rattle.text_assembler.specs.Tokens.{after_line}
use Rattle.text_assembler.proofs.lexer.after_line.Given as goal

abbrev pub invariant-loop-rest : goal.invariant-loop-rest
invariant-loop-rest l = after_line l.rest ≡ after_line l.bytes

abbrev pub decreases-loop-rest : goal.decreases-loop-rest
decreases-loop-rest l = length l.rest
