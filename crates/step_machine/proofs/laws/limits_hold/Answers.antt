use Rattle.step_machine.proofs.LimitLemmas.{limits_hold}
use Rattle.step_machine.proofs.laws.limits_hold.Goals as goal

pub returns : goal.returns
returns c m p n t same = limits_hold m p n t same
