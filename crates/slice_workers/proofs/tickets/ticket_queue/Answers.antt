use Rattle.slice_workers.proofs.MergeLemmas.{begins}
use Rattle.slice_workers.proofs.tickets.ticket_queue.Goals as goal

pub ruled-requires-clause-rule : goal.ruled-requires-clause-rule
ruled-requires-clause-rule c = begins
