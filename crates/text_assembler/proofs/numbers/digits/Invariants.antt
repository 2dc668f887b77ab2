use Rattle.std.proofs.Common.{◌≡◌, true, length}
use Rattle.text_assembler.specs.Numbers.{more_digits}
use Rattle.text_assembler.proofs.numbers.digits.Given as goal

abbrev pub invariant-loop-rest : goal.invariant-loop-rest
invariant-loop-rest l = more_digits l.base l.number l.due l.rest ≡ more_digits l.base 0 true l.word

abbrev pub decreases-loop-rest : goal.decreases-loop-rest
decreases-loop-rest l = length l.rest
