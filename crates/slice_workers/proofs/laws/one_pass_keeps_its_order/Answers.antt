use Rattle.slice_workers.proofs.MergeLaws as laws
use Rattle.slice_workers.proofs.laws.one_pass_keeps_its_order.Goals as goal

pub returns : goal.returns
returns c = laws.one_pass
