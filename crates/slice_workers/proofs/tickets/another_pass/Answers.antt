use Rattle.slice_workers.proofs.MergeLemmas.{forks}
use Rattle.slice_workers.proofs.tickets.another_pass.Goals as goal

pub another-requires-clause-rule : goal.another-requires-clause-rule
another-requires-clause-rule c = forks _ _
