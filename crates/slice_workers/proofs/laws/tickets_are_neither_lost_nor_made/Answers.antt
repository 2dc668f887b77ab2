use Rattle.slice_workers.proofs.MergeLaws as laws
use Rattle.slice_workers.proofs.laws.tickets_are_neither_lost_nor_made.Goals as goal

pub returns : goal.returns
returns c = laws.none_lost
