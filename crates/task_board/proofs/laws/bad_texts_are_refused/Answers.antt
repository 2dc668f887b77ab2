use Rattle.task_board.proofs.TextLemmas.{bad_text_stays, big_text_is_limit, no_text_is_bad}
use Rattle.task_board.proofs.laws.bad_texts_are_refused.Goals as goal

pub returns-clause-stays : goal.returns-clause-stays
returns-clause-stays c = bad_text_stays

pub returns-clause-limit : goal.returns-clause-limit
returns-clause-limit c s text m r s' denotes big a = big_text_is_limit s text m r s' c.denotes_one.ensures denotes big a

pub returns-clause-bad : goal.returns-clause-bad
returns-clause-bad c = no_text_is_bad
