use Rattle.std.proofs.Common.{◌≡◌, length}
use Rattle.text_assembler.specs.Words.{find_word}
use Rattle.text_assembler.proofs.keyword.find_word.Given as goal

abbrev pub invariant-loop-rest : goal.invariant-loop-rest
invariant-loop-rest l = find_word l.rest l.word ≡ find_word l.keywords l.word

abbrev pub decreases-loop-rest : goal.decreases-loop-rest
decreases-loop-rest l = length l.rest
