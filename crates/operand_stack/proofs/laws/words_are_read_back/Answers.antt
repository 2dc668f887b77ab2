use Rattle.operand_stack.proofs.WordLemmas.{read_written, read_other, same_count}
use Rattle.operand_stack.proofs.laws.words_are_read_back.Goals as goal

pub returns-clause-written : goal.returns-clause-written
returns-clause-written c = read_written

pub returns-clause-others : goal.returns-clause-others
returns-clause-others c = read_other

pub returns-clause-count : goal.returns-clause-count
returns-clause-count c = same_count
