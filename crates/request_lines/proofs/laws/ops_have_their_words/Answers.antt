use Rattle.request_lines.proofs.TableLemmas.{own_word, same_op}
use Rattle.request_lines.proofs.laws.ops_have_their_words.Goals as goal

pub returns-clause-own : goal.returns-clause-own
returns-clause-own c = own_word

pub returns-clause-differ : goal.returns-clause-differ
returns-clause-differ c = same_op
