use Rattle.task_board.proofs.LifecycleLemmas.{pausing_pauses, breaks_pause, others_run}
use Rattle.task_board.proofs.laws.returned_tasks_pause.Goals as goal

pub returns-clause-pausing : goal.returns-clause-pausing
returns-clause-pausing c = pausing_pauses

pub returns-clause-at_break : goal.returns-clause-at_break
returns-clause-at_break c = breaks_pause

pub returns-clause-running : goal.returns-clause-running
returns-clause-running c = others_run
