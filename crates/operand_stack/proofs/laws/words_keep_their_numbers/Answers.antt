use Rattle.operand_stack.proofs.WordLemmas.{read_under, write_under}
use Rattle.operand_stack.proofs.laws.words_keep_their_numbers.Goals as goal

pub returns-clause-reads : goal.returns-clause-reads
returns-clause-reads c = read_under

pub returns-clause-writes : goal.returns-clause-writes
returns-clause-writes c = write_under
