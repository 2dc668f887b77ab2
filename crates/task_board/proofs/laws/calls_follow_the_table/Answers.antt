use Rattle.task_board.proofs.LifecycleLemmas.{started_by_table, killed_by_table, stepped_by_table}
use Rattle.task_board.proofs.laws.calls_follow_the_table.Goals as goal

pub returns-clause-start : goal.returns-clause-start
returns-clause-start c = started_by_table

pub returns-clause-kill : goal.returns-clause-kill
returns-clause-kill c t signal = killed_by_table signal t

pub returns-clause-step : goal.returns-clause-step
returns-clause-step c = stepped_by_table
