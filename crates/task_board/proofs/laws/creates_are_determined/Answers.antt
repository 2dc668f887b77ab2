use Rattle.task_board.proofs.LawLemmas.{create_agrees}
use Rattle.task_board.proofs.laws.creates_are_determined.Goals as goal

pub returns : goal.returns
returns c s config id r s1 r' s2 a b =
    create_agrees s config id r s1 r' s2 c.spells_one.ensures c.invalid_modules_are_not_valid.ensures a b
