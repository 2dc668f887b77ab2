use Rattle.step_machine.proofs.ShownLemmas.{shown_ends}
use Rattle.step_machine.proofs.laws.its_operands_are_shown.Goals as goal

pub returns : goal.returns
returns c t x h = shown_ends t x h
