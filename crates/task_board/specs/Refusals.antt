-- The refusals of each request to a task, in the order in which they are tried. Those of the requests to the
-- store are content_leases'.
use Rattle.std.specs.Prelude.{◌≡◌, ℕ, List, [], ◌∷◌, length, nat_le, Bool, true, not, ◌||◌, ◌&&◌, Option, Some, None, is_some, is_none, option_and_then, ◌++◌}
use Rattle.wasm_ast.specs.declared.module.Module.{Module}
use Rattle.wasm_ast.specs.declared.place.Place.{Place}
use Rattle.wasm_ast.specs.declared.refusal.Refusal.{Refusal}
use Rattle.wasm_ast.specs.declared.refusal.Refusal.TheVariants as refusal
use Rattle.wasm_binary.specs.Grammar.{Spells}
use Rattle.wasm_binary.specs.Limits.{Over}
use Rattle.wasm_binary.specs.Spelled.{IsSpelled}
use Rattle.oci_config.specs.declared.process.ProcessConfig.{ProcessConfig}
use Rattle.validator.specs.Typing.{ValidModule}
use Rattle.validator.specs.Faults.{NamesFault}
use Rattle.step_machine.specs.Instantiation.{instantiation_refusal}
use Rattle.step_machine.specs.Limits.{max_breakpoints}
use Rattle.step_machine.specs.Places.{has_place}
use Rattle.step_machine.specs.Slices.{is_among}
use Rattle.task_requests.specs.declared.request.Ask.{Ask}
use Rattle.task_requests.specs.declared.request.Ask.TheVariants as ask
use Rattle.task_lifecycle.specs.declared.lifecycle.TaskCall.{TaskCall}
use Rattle.task_lifecycle.specs.declared.lifecycle.TaskCall.TheVariants as call
use Rattle.task_board.specs.Limits.{max_tasks, max_creates, max_step}
use Rattle.wasm_ast.specs.Identifiers.{is_id}
use Rattle.oci_config.specs.Config.{process_read}
use Rattle.oci_config.specs.Streams.{stream_of}
use Rattle.task_lifecycle.specs.Lifecycle.{allowed}
use Rattle.task_lifecycle.specs.Names.{signal_of}
use Rattle.content_leases.specs.StoreState.{content_in}
use Rattle.content_leases.specs.Refusals.{Refusals}
use Rattle.task_board.specs.BoardState.{Task, BoardState, task_of}
use Rattle.task_board.specs.Tasks.{memory_at}

-- ---- create

-- no other task can be created
abbrev pub is_full : BoardState → Bool
is_full s = nat_le max_tasks (length s.tasks) || nat_le max_creates s.creates

-- the stored bytes of the module that a config names
abbrev pub named_bytes : BoardState → (config : List ℕ) → Option (List ℕ)
named_bytes s config = option_and_then (λ (p : ProcessConfig). content_in s.store.contents p.module)
    (process_read config)

-- those of a create that concern its id alone
abbrev pub id_refusals : BoardState → (id : List ℕ) → Refusals
id_refusals s id =
    (not (is_id id), refusal.BadId)
    ∷ (is_some (task_of id s.tasks), refusal.Exists)
    ∷ (is_full s, refusal.TooMany) ∷ []

-- those before the bytes are read
abbrev pub create_refusals : BoardState → (config id : List ℕ) → Refusals
create_refusals s config id = id_refusals s id
    ++ (is_none (process_read config), refusal.BadConfig)
    ∷ (is_none (named_bytes s config), refusal.NoContent) ∷ []

-- why no task can be created from bytes under a process
pub data CannotOpen (bytes : List ℕ) (p : ProcessConfig) : Refusal → Type 0 where
  -- they spell no module
  no_module : ((m : Module) → Spells bytes m → ⊥) → CannotOpen bytes p refusal.BadModule
  -- they pass a limit, and spell no module within the limits
  too_much : Over bytes → ((m : Module) → IsSpelled bytes m → ⊥) → CannotOpen bytes p refusal.Limit
  -- they spell a module that is not valid, and the place is that of a fault of it
  invalid : (m : Module) → (at : Option Place) → IsSpelled bytes m → NamesFault m at
      → CannotOpen bytes p (refusal.Invalid at)
  -- a valid module that cannot be instantiated under the process
  refused : (m : Module) → (e : Refusal) → IsSpelled bytes m → ValidModule m
      → instantiation_refusal m p ≡ Some e → CannotOpen bytes p e

-- the bytes spell a valid module that can be instantiated under the process
pub record Openable (bytes : List ℕ) (p : ProcessConfig) (m : Module) : Type 0 where
  pub spelled : IsSpelled bytes m
  pub valid : ValidModule m
  pub opens : instantiation_refusal m p ≡ None

-- ---- requests to a task

-- the status of the task does not allow the call
abbrev pub unless_allowed : TaskCall → (e : Refusal) → Task → Refusals
unless_allowed c e t = (not (allowed c t.status), e) ∷ []

-- a step is of 1 to 1,000 turns
abbrev pub is_step : (count : ℕ) → Bool
is_step count = nat_le 1 count && nat_le count max_step

-- those of a request for an instruction of the task
abbrev pub place_refusals : TaskCall → (func place : ℕ) → Task → Refusals
place_refusals c func place t =
    (not (allowed c t.status), refusal.WrongStatus)
    ∷ (not (has_place t.module func place), refusal.OutOfRange) ∷ []

-- those of each kind
abbrev pub own_refusals : Ask → Task → Refusals
own_refusals ask.Start = unless_allowed call.Start refusal.WrongStatus
own_refusals ask.Pause = unless_allowed call.Pause refusal.WrongStatus
own_refusals ask.Resume = unless_allowed call.Resume refusal.WrongStatus
own_refusals (ask.Kill signal) = λ t. (is_none (signal_of signal), refusal.OutOfRange)
    ∷ unless_allowed call.Kill refusal.WrongStatus t
own_refusals ask.Delete = unless_allowed call.Delete refusal.WrongStatus
own_refusals ask.State = λ t. []
own_refusals ask.Wait = unless_allowed call.Wait refusal.Busy
own_refusals (ask.Output stream) = λ t.
    (is_none (stream_of stream), refusal.OutOfRange) ∷ (is_some t.out, refusal.Busy) ∷ []
own_refusals (ask.Break func place) = λ t. place_refusals call.Break func place t
    ++ (is_among t.breaks func place, refusal.Exists)
    ∷ (nat_le max_breakpoints (length t.breaks), refusal.TooMany) ∷ []
own_refusals (ask.Unbreak func place) = λ t. place_refusals call.Unbreak func place t
    ++ (not (is_among t.breaks func place), refusal.NotFound) ∷ []
own_refusals (ask.Step count) = λ t.
    (not (allowed call.Step t.status), refusal.WrongStatus)
    ∷ (not (is_step count), refusal.OutOfRange) ∷ []
own_refusals ask.Inspect = λ t. (is_some t.out, refusal.Busy) ∷ []
own_refusals (ask.Peek address length) = λ t.
    (is_some t.out, refusal.Busy)
    ∷ (is_none (memory_at t address length), refusal.OutOfRange) ∷ []

-- the id is malformed, then no task has it, then the request's own
abbrev pub task_refusals : (id : List ℕ) → (own : Task → Refusals) → Option Task → Refusals
task_refusals id own None = (not (is_id id), refusal.BadId) ∷ (true, refusal.NotFound) ∷ []
task_refusals id own (Some t) = (not (is_id id), refusal.BadId) ∷ own t
