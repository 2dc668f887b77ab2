use Rattle.task_board.proofs.LawLemmas.{happens_moves}
use Rattle.task_board.proofs.laws.tasks_move.Goals as goal

pub returns : goal.returns
returns c = happens_moves
