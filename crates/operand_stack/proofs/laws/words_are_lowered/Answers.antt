use Rattle.operand_stack.proofs.WordLemmas.{lowered_onto}
use Rattle.operand_stack.proofs.laws.words_are_lowered.Goals as goal

pub returns : goal.returns
returns c = lowered_onto
