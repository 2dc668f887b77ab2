use Rattle.task_board.proofs.LawLemmas.{not_invalid}
use Rattle.task_board.proofs.laws.valid_modules_are_not_invalid.Goals as goal

pub returns : goal.returns
returns c bytes p m at spelled valid h =
    not_invalid bytes p m at c.spells_one.ensures c.invalid_modules_are_not_valid.ensures spelled valid h
