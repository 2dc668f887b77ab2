use Rattle.std.proofs.Common.{◌∙◌, ℕ, Option, None, ap}
use Rattle.step_machine.specs.Instantiation.{first_state, first_store, entry}
use Rattle.step_machine.specs.Program.{program}
use Rattle.step_machine.specs.Shown.{shown}
use Rattle.step_machine.specs.Turns.{settled}
use Rattle.step_machine.proofs.ShownLemmas.{first_shown}
use Rattle.step_machine.proofs.laws.entries_begin_so.Goals as goal

pub returns : goal.returns
returns c = λ m p func t zeros o os start entered at few.
    ap
    (λ (x : Option ℕ). shown
    (settled (program m p) (record { store = first_store m p; state = first_state x (entry m) })).state)
    start
    ∙ ap
    (λ (x : Option ℕ). shown
    (settled (program m p) (record { store = first_store m p; state = first_state None x })).state)
    entered
    ∙ first_shown (program m p) (first_store m p) func t zeros o os at few
