use Rattle.slice_workers.proofs.MergeLemmas.{puts}
use Rattle.slice_workers.proofs.tickets.put_ticket.Goals as goal

pub try_push_as-requires-clause-rule : goal.try_push_as-requires-clause-rule
try_push_as-requires-clause-rule c = puts _ _ _ _
