use Rattle.task_board.proofs.MemoryLemmas.{asking, asks_so, taking, takes_so, met_takes}
use Rattle.task_board.proofs.laws.few_requests_allocate.Goals as goal

pub returns-clause-requests : goal.returns-clause-requests
returns-clause-requests c r = (taking r, takes_so r)

pub returns-clause-asked : goal.returns-clause-asked
returns-clause-asked c a = (asking a, asks_so a)

pub returns-clause-call : goal.returns-clause-call
returns-clause-call c r reply met = met_takes r reply met
