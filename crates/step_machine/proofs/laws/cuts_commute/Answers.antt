use Rattle.step_machine.proofs.TurnLemmas.{from-add}
use Rattle.step_machine.proofs.laws.cuts_commute.Goals as goal

pub returns : goal.returns
returns c p k a b d = from-add p k a b d
