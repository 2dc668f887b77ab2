use Rattle.std.proofs.Common.{vec_len}
use Rattle.task_board.proofs.run.end_all.Given as goal

abbrev pub decreases-loop-loan : goal.decreases-loop-loan
decreases-loop-loan l = vec_len l.loans
