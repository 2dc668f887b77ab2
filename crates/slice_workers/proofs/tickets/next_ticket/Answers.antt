use Rattle.slice_workers.proofs.MergeLemmas.{takes}
use Rattle.slice_workers.proofs.tickets.next_ticket.Goals as goal

pub try_pop_as-requires-clause-rule : goal.try_pop_as-requires-clause-rule
try_pop_as-requires-clause-rule c = takes _ _
