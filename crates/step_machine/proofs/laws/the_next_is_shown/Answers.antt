use Rattle.step_machine.proofs.ShownLemmas.{shown_begins}
use Rattle.step_machine.proofs.laws.the_next_is_shown.Goals as goal

pub returns : goal.returns
returns c t x h = shown_begins t x h
