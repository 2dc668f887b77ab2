use Rattle.task_board.proofs.TextLemmas.{text_agrees}
use Rattle.task_board.proofs.laws.texts_are_determined.Goals as goal

pub returns : goal.returns
returns c s text r s1 r' s2 a b =
    text_agrees s text r s1 r' s2 c.denotes_one.ensures c.too_deep_denotes_none_within.ensures a b
