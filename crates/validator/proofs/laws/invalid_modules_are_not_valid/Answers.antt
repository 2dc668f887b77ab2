use Rattle.validator.proofs.FaultLemmas.{fault_not_valid}
use Rattle.validator.proofs.laws.invalid_modules_are_not_valid.Goals as goal

pub returns : goal.returns
returns c = fault_not_valid
