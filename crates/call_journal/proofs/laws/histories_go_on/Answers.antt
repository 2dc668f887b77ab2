use Rattle.call_journal.proofs.HistoryLemmas.{cut, join, one_more, legal_more, legal_last}
use Rattle.call_journal.proofs.laws.histories_go_on.Goals as goal

pub returns-clause-more : goal.returns-clause-more
returns-clause-more c s last mid next h e a r finds answers = one_more h e a s last mid next r finds answers

pub returns-clause-cut : goal.returns-clause-cut
returns-clause-cut c s s' front back r = cut front back s s' r

pub returns-clause-join : goal.returns-clause-join
returns-clause-join c s mid s' front back r rest = join front back s mid s' r rest

pub returns-clause-legal : goal.returns-clause-legal
returns-clause-legal c = legal_more

pub returns-clause-last : goal.returns-clause-last
returns-clause-last c = legal_last
