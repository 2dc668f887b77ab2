use Rattle.task_board.proofs.LoanStays.{lends_fits, steps_stay, run_stays, returns_unfit, one_slot}
use Rattle.task_board.proofs.laws.loans_fit_until_they_return.Goals as goal

pub returns-clause-taken : goal.returns-clause-taken
returns-clause-taken c = lends_fits

pub returns-clause-stay : goal.returns-clause-stay
returns-clause-stay c = steps_stay

pub returns-clause-run : goal.returns-clause-run
returns-clause-run c = run_stays

pub returns-clause-returned : goal.returns-clause-returned
returns-clause-returned c = returns_unfit

pub returns-clause-one : goal.returns-clause-one
returns-clause-one c = one_slot
