use Rattle.task_board.proofs.StepTurns.{no_more, fewer, not_before}
use Rattle.task_board.proofs.laws.steps_stop_first.Goals as goal

pub returns-clause-no_more : goal.returns-clause-no_more
returns-clause-no_more c t count = no_more t count c.slices_go_forward.ensures.at_most

pub returns-clause-fewer : goal.returns-clause-fewer
returns-clause-fewer c t count = fewer t count c.slices_stop_first.ensures.only_there

pub returns-clause-not_before : goal.returns-clause-not_before
returns-clause-not_before c t count n = not_before t count n c.slices_stop_first.ensures.not_before
