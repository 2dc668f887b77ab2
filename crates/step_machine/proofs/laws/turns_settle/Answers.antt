use Rattle.std.proofs.Common.{arith}
use Rattle.step_machine.specs.Program.{program}
use Rattle.step_machine.specs.Reduction.{step}
use Rattle.step_machine.specs.Turns.{state_weight}
use Rattle.step_machine.specs.Instantiation.{first_store, first_state, entry}
use Rattle.step_machine.proofs.SettleTerminates.{settles}
use Rattle.step_machine.proofs.laws.turns_settle.Goals as goal

pub returns-clause-turn : goal.returns-clause-turn
returns-clause-turn c p d = settles p (state_weight (step p d).state) (step p d) (omega arith)

pub returns-clause-initial : goal.returns-clause-initial
returns-clause-initial c m p =
    settles (program m p) (state_weight (first_state m.start (entry m)))
    (record { store = first_store m p; state = first_state m.start (entry m) }) (omega arith)
