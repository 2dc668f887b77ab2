use Rattle.std.proofs.Common.{refl}
use Rattle.std.specs.Fmt.{digits}
use Rattle.text_assembler.proofs.laws.lines_are_written.Goals as goal

pub returns-clause-opening_block : goal.returns-clause-opening_block
unfolding digits
returns-clause-opening_block c = λ body. refl

pub returns-clause-opening_loop : goal.returns-clause-opening_loop
unfolding digits
returns-clause-opening_loop c = λ body. refl

pub returns-clause-opening_if : goal.returns-clause-opening_if
unfolding digits
returns-clause-opening_if c = λ first second. refl
