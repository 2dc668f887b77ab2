use Rattle.task_board.proofs.StepTurns.{add_up}
use Rattle.task_board.proofs.laws.steps_add_up.Goals as goal

pub returns : goal.returns
returns c t j k = add_up t j k c.slices_commute.ensures.two
