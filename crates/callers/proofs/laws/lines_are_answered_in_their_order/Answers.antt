use Rattle.callers.proofs.LawLemmas.{no_lines, some_lines}
use Rattle.callers.proofs.laws.lines_are_answered_in_their_order.Goals as goal

pub returns-clause-none : goal.returns-clause-none
returns-clause-none c = no_lines

pub returns-clause-some : goal.returns-clause-some
returns-clause-some c = some_lines
