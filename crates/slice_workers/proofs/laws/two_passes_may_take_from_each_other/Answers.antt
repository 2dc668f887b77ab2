use Rattle.slice_workers.proofs.MergeLaws as laws
use Rattle.slice_workers.proofs.laws.two_passes_may_take_from_each_other.Goals as goal

pub returns-clause-taken : goal.returns-clause-taken
returns-clause-taken c = laws.taken

pub returns-clause-twice : goal.returns-clause-twice
returns-clause-twice c = laws.twice
