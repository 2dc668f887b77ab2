use Rattle.task_board.proofs.LawLemmas.{run_sound, quiet_stays}
use Rattle.task_board.proofs.ClaimLemmas.{replies_true, tasks_stay_same}
use Rattle.task_board.proofs.laws.replies_are_true.Goals as goal

pub returns-clause-reply : goal.returns-clause-reply
returns-clause-reply c = replies_true

pub returns-clause-same : goal.returns-clause-same
returns-clause-same c es rs s run e r s' h k t there t' at =
    tasks_stay_same s e r s' (run_sound es rs s run) h k t there t' at

pub returns-clause-idle : goal.returns-clause-idle
returns-clause-idle c es rs s run e r s' h k t there quiet other =
    quiet_stays s e r s' (run_sound es rs s run) h k t there quiet other
