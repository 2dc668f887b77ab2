use Rattle.step_machine.proofs.OutputLemmas.{outputs_grow}
use Rattle.step_machine.proofs.laws.outputs_grow.Goals as goal

pub returns : goal.returns
returns c m p n k s = outputs_grow m p n k s
