use Rattle.step_machine.proofs.SliceCuts.{within_budget, forward, no_turn}
use Rattle.step_machine.proofs.laws.slices_go_forward.Goals as goal

pub returns-clause-at_most : goal.returns-clause-at_most
returns-clause-at_most c m p n bs budget = within_budget m p bs n budget

pub returns-clause-at_least : goal.returns-clause-at_least
returns-clause-at_least c m p n bs budget h l = forward m p bs n budget h l

pub returns-clause-none : goal.returns-clause-none
returns-clause-none c m p n bs budget h = no_turn m p bs n budget h
