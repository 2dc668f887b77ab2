use Rattle.task_board.proofs.StepLemmas.{slice_advances}
use Rattle.task_board.proofs.laws.slices_advance_legally.Goals as goal

pub returns : goal.returns
returns c creates t budget sound out =
    slice_advances creates t budget c.slices_go_forward.ensures.at_least
    c.slices_stop_first.ensures.not_before sound out
