use Rattle.task_board.proofs.LawLemmas.{run_sound, quiet_stays}
use Rattle.task_board.proofs.laws.idle_tasks_take_no_turn.Goals as goal

pub returns : goal.returns
returns c es rs s run e r s' h k t there quiet other =
    quiet_stays s e r s' (run_sound es rs s run) h k t there quiet other
