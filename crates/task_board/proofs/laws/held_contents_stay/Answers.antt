use Rattle.task_board.proofs.HeldLemmas.{happens_held, run_there}
use Rattle.task_board.proofs.laws.held_contents_stay.Goals as goal

pub returns-clause-event : goal.returns-clause-event
returns-clause-event c = happens_held

pub returns-clause-leased : goal.returns-clause-leased
returns-clause-leased c es rs s run digest held = (run_there es rs s run).leased digest held

pub returns-clause-tasks : goal.returns-clause-tasks
returns-clause-tasks c es rs s run k t there = (run_there es rs s run).tasks k t there
