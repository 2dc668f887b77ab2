use Rattle.content_leases.proofs.StoreLemmas.{unheld_gone}
use Rattle.content_leases.proofs.laws.unheld_contents_go.Goals as goal

pub returns : goal.returns
returns c = unheld_gone
