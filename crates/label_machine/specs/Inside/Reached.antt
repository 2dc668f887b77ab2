-- What a machine's fields hold.
use Rattle.std.specs.Prelude.{◌≡◌, ℕ, List, Option, Some, None}
use Rattle.wasm_ast.specs.declared.module.Module.{Module}
use Rattle.oci_config.specs.declared.process.ProcessConfig.{ProcessConfig}
use Rattle.oci_config.specs.declared.stream.Stream.{Stream}
use Rattle.oci_config.specs.Processes.{config_of}
use Rattle.step_machine.specs.Program.{program}
use Rattle.step_machine.specs.Instantiation.{first_store, after}
use Rattle.step_machine.specs.MachineView.{written_to}
use Rattle.label_machine.specs.declared.store.Store.{Store}
use Rattle.label_machine.specs.declared.run.Step.{Step}
use Rattle.label_machine.specs.declared.run.Step.TheVariants as step
use Rattle.label_machine.specs.declared.machine.State.{State}
use Rattle.label_machine.specs.declared.machine.State.TheVariants.{Going, Ended}
use Rattle.label_machine.specs.Inside.Runs.{store_of, LeadsTo}

-- the step that a state is
abbrev pub step_of : State → Step
step_of (Going x) = step.Waits x
step_of (Ended e s) = step.Ends e s

abbrev pub state_from : Step → Option State
state_from (step.Goes x d) = None
state_from (step.Waits x) = Some (Going x)
state_from (step.Ends e s) = Some (Ended e s)
state_from step.Stuck = None

abbrev pub kept_by : State → Store
kept_by (Going x) = x.store
kept_by (Ended e s) = s

abbrev pub process_of : State → ProcessConfig
process_of s = config_of (kept_by s).process

abbrev pub output_from : State → Stream → List ℕ
output_from s stream = written_to stream (store_of (kept_by s))

-- the data are those of the configuration after this number of turns
abbrev pub Reached : Module → ProcessConfig → (turns : ℕ) → State → Type 0
Reached m p n s = LeadsTo (program m p) (after m p n) (step_of s)

-- the store is as instantiated
pub record IsFirst (m : Module) (p : ProcessConfig) (s : Store) : Type 0 where
  pub store : store_of s ≡ first_store m p
  pub process : config_of s.process ≡ p
