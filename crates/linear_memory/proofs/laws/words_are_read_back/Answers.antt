use Rattle.linear_memory.proofs.WordLemmas.{read_back}
use Rattle.linear_memory.proofs.laws.words_are_read_back.Goals as goal

pub returns : goal.returns
returns c = read_back
