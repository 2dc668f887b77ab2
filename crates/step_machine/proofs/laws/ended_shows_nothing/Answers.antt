use Rattle.step_machine.proofs.ShownLemmas.{shows_none}
use Rattle.step_machine.proofs.laws.ended_shows_nothing.Goals as goal

pub returns : goal.returns
returns c s h = shows_none s h
