use Rattle.task_board.proofs.LifecycleLemmas.{first_kept}
use Rattle.task_board.proofs.laws.the_first_signal_is_kept.Goals as goal

pub returns : goal.returns
returns c = first_kept
