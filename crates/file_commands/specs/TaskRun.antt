-- What `run` writes: one task, from its first turn to its end.
use Rattle.std.specs.Prelude.{◌≡◌, ℕ, ◌%◌, List, [], ◌∷◌, ◌++◌, map, length, nat_lt, if◌then◌else◌, Bool, true, false, codes, string_bytes, Option, None, Some}
use Rattle.std.specs.Io.KnownBytes.{Appends}
use Rattle.wasm_ast.specs.declared.module.Module.{Module}
use Rattle.wasm_ast.specs.declared.place.Place.{Place}
use Rattle.wasm_ast.specs.declared.refusal.Refusal.{Refusal}
use Rattle.wasm_ast.specs.declared.refusal.Refusal.TheVariants as refusal
use Rattle.wasm_ast.specs.Names.{trap_name}
use Rattle.oci_config.specs.declared.process.ProcessConfig.{ProcessConfig}
use Rattle.oci_config.specs.Limits.{max_output}
use Rattle.oci_config.specs.Setup.{are_taken, process_under}
use Rattle.validator.specs.Typing.{ValidModule}
use Rattle.validator.specs.Faults.{NamesFault}
use Rattle.step_machine.specs.declared.ends.End.{End}
use Rattle.step_machine.specs.declared.ends.End.TheVariants as ends
use Rattle.step_machine.specs.Configuration.{Store}
use Rattle.step_machine.specs.Instantiation.{instantiation_refusal, after, ended}
use Rattle.task_lifecycle.specs.Names.{exit_status}
use Rattle.task_board.specs.Tasks.{exit_of}
use Rattle.file_commands.specs.declared.ran.Ran.{Ran}
use Rattle.file_commands.specs.declared.settings.Settings.{Settings}
use Rattle.file_commands.specs.Source.{IsSource, IsNoSource}
use Rattle.file_commands.specs.Ran.{line, refused_run}

-- what a task is given: its arguments, its environment, and the limit on its memory in bytes, if there is one
pub record Given : Type 0 where
  pub args : List (List ℕ)
  pub env : List (List ℕ)
  pub limit : Option ℕ

-- the arguments are the name of the file and the words that follow it
abbrev pub given : (name : List ℕ) → (words : List (List ℕ)) → Settings → Given
given name words settings = record {
  args = name ∷ words;
  env = map string_bytes settings.env.items;
  limit = settings.memory;
}

abbrev pub can_have : Given → Bool
can_have g = are_taken g.args g.env

abbrev pub process_given : Given → ProcessConfig
process_given g = process_under g.args g.env g.limit

-- why a file cannot be run so: the first reason that holds
pub data CannotRun (bytes : List ℕ) (g : Given) : Refusal → Type 0 where
  no_module : (e : Refusal) → IsNoSource bytes e → CannotRun bytes g e
  -- a process cannot have the arguments and the environment
  bad_arguments :
      (m : Module) → IsSource bytes m → can_have g ≡ false → CannotRun bytes g refusal.BadConfig
  -- the place is that of a fault of the module
  invalid : (m : Module) → (at : Option Place) → IsSource bytes m → can_have g ≡ true
      → NamesFault m at → CannotRun bytes g (refusal.Invalid at)
  not_instantiated :
      (m : Module) (e : Refusal) → IsSource bytes m → can_have g ≡ true → ValidModule m
      → instantiation_refusal m (process_given g) ≡ Some e → CannotRun bytes g e

-- a trap adds a line to standard error
abbrev pub trap_line : End → List ℕ
trap_line ends.Returned = []
trap_line (ends.Exited code) = []
trap_line (ends.Trapped trap) = line (codes "trap: " ++ trap_name trap)

-- a stream that has taken all the bytes that it takes adds one too
abbrev pub full_line : (name : List ℕ) → (count : ℕ) → List ℕ
full_line name count =
    if nat_lt count max_output then [] else line (name ++ codes " is full: 65536 bytes")

-- what is added to standard error at the end of a task that has written these outputs
abbrev pub end_lines : (out err : List ℕ) → End → List ℕ
end_lines out err end = trap_line end ++ (full_line (codes "standard output") (length out)
    ++ full_line (codes "standard error") (length err))

-- what a task has written and its exit status, of which a program's status has the lowest 8 bits
abbrev pub ran_to : Store → End → Ran
ran_to store end = record {
  out = store.out;
  err = store.err ++ end_lines store.out store.err end;
  status = exit_status (exit_of end) % 256;
}

-- the module in a file can be run so
pub record CanRun (bytes : List ℕ) (g : Given) (m : Module) : Type 0 where
  pub source : IsSource bytes m
  pub arguments : can_have g ≡ true
  pub valid : ValidModule m
  pub opens : instantiation_refusal m (process_given g) ≡ None

-- the module, under the process, comes to an end after some number of turns, and this is what it leaves
pub record HasEnded (m : Module) (p : ProcessConfig) (ran : Ran) : Type 0 where
  pub turns : ℕ
  pub end : End
  pub ends : ended (after m p turns).state ≡ Some end
  pub is : ran ≡ ran_to (after m p turns).store end

-- the task runs to its end, or there is none
pub data IsRun (bytes : List ℕ) (g : Given) : Ran → Type 0 where
  ran : (m : Module) (r : Ran) → CanRun bytes g m → HasEnded m (process_given g) r → IsRun bytes g r
  no_task : (e : Refusal) → CannotRun bytes g e → IsRun bytes g (refused_run e)

-- to two streams is appended what one `Ran` of these writes, and the status is its own
abbrev pub IsWritten :
    (Ran → Type 0) → (out out' err err' : Option (List ℕ)) → (status : ℕ) → Type 0
IsWritten Is out out' err err' status =
    (r : Ran) × Is r × Appends out out' r.out × Appends err err' r.err × (status ≡ r.status)
