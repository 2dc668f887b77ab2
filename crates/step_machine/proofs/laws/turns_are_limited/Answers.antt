use Rattle.step_machine.proofs.LastTurn.{early}
use Rattle.step_machine.proofs.laws.turns_are_limited.Goals as goal

pub returns : goal.returns
returns c m p n h = early m p n h
