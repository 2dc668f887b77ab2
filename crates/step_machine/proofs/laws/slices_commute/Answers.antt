use Rattle.step_machine.proofs.SliceCuts.{any_cut, two_slices}
use Rattle.step_machine.proofs.laws.slices_commute.Goals as goal

pub returns-clause-any_cut : goal.returns-clause-any_cut
returns-clause-any_cut c m p n budgets = any_cut m p n budgets

pub returns-clause-two : goal.returns-clause-two
returns-clause-two c m p n bs a b quiet = two_slices m p bs n a b quiet
