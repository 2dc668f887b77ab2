use Rattle.task_board.proofs.TextLemmas.{text_is_put}
use Rattle.task_board.proofs.laws.texts_are_put.Goals as goal

pub returns : goal.returns
returns c s text m r s' denotes fits a =
    text_is_put s text m r s' c.denotes_one.ensures c.too_deep_denotes_none_within.ensures denotes fits a
