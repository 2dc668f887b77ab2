use Rattle.step_machine.proofs.SliceCuts.{not_before, only_there}
use Rattle.step_machine.proofs.laws.slices_stop_first.Goals as goal

pub returns-clause-not_before : goal.returns-clause-not_before
returns-clause-not_before c m p n bs budget j l h = not_before m p bs n budget j l h

pub returns-clause-only_there : goal.returns-clause-only_there
returns-clause-only_there c m p n bs budget h l = only_there m p bs n budget h l
