use Rattle.std.proofs.Common.{◌≡◌, ◌<◌, length}
use Rattle.text_assembler.specs.Tokens.{more_code}
use Rattle.text_assembler.proofs.strings.read_digits.Given as goal

abbrev pub invariant-loop-rest : goal.invariant-loop-rest
invariant-loop-rest l = (l.code < 0x110000) × (more_code l.code l.rest ≡ more_code 0 l.bytes)

abbrev pub decreases-loop-rest : goal.decreases-loop-rest
decreases-loop-rest l = length l.rest
