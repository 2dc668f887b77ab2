use Rattle.step_machine.proofs.TurnLemmas.{stays}
use Rattle.step_machine.proofs.laws.halted_stays.Goals as goal

pub returns : goal.returns
returns c p k n d h = stays p k n d h
