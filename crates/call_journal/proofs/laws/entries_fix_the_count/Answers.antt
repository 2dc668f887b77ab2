use Rattle.call_journal.proofs.ComingLemmas.{finds_same}
use Rattle.call_journal.proofs.laws.entries_fix_the_count.Goals as goal

pub returns : goal.returns
returns c = finds_same
