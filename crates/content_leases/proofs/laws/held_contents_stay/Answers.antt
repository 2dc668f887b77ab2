use Rattle.content_leases.proofs.StoreLemmas.{held_kept, held_refused}
use Rattle.content_leases.proofs.laws.held_contents_stay.Goals as goal

pub returns-clause-collect : goal.returns-clause-collect
returns-clause-collect c = held_kept

pub returns-clause-remove : goal.returns-clause-remove
returns-clause-remove c = held_refused
