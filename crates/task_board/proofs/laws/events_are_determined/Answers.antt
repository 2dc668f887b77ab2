use Rattle.task_board.proofs.LawLemmas.{events_same}
use Rattle.task_board.proofs.laws.events_are_determined.Goals as goal

pub returns : goal.returns
returns c = events_same
