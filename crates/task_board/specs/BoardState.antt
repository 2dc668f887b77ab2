-- The abstract board: what a call can see of contents, leases and tasks.
use Rattle.std.specs.Prelude.{ℕ, ◌+◌, List, [], ◌∷◌, map, bytes_eq, nat_eq, nat_lt, if◌then◌else◌, Option, Some, None, option_map, find}
use Rattle.wasm_ast.specs.declared.module.Module.{Module}
use Rattle.oci_config.specs.declared.process.ProcessConfig.{ProcessConfig}
use Rattle.wasm_ast.specs.declared.place.Place.{Place}
use Rattle.task_lifecycle.specs.declared.status.Status.{Status}
use Rattle.task_lifecycle.specs.declared.status.Status.TheVariants.{Created}
use Rattle.task_lifecycle.specs.declared.status.Signal.{Signal}
use Rattle.task_lifecycle.specs.declared.status.ExitRecord.{ExitRecord}
use Rattle.content_leases.specs.StoreState.{StoreState, empty as no_contents}

-- A task. Its configuration after n turns is that of its module under its process (step_machine).
pub record Task : Type 0 where
  pub id : List ℕ
  -- how many creates the board had accepted before it
  pub incarnation : ℕ
  -- the stored bytes that it was created from, and the module that they spell
  pub bytes : List ℕ
  pub «module» : Module
  -- as configured; its digest is that of the stored bytes
  pub process : ProcessConfig
  -- how many turns it has made; while its slice is out, how many it had made before
  pub turns : ℕ
  pub status : Status
  pub breaks : List Place
  -- the budget of its slice, while that is out
  pub out : Option ℕ
  -- the pending signal, while its slice is out; it ends the task then, unless its own end comes first
  pub signal : Option Signal
  -- how it ended
  pub end : Option ExitRecord

-- a task as it was created, with nothing done yet
abbrev pub created_task :
    (id : List ℕ) → (incarnation : ℕ) → (bytes : List ℕ) → Module → ProcessConfig → Task
created_task id incarnation bytes m p = record {
  id = id;
  incarnation = incarnation;
  bytes = bytes;
  «module» = m;
  process = p;
  turns = 0;
  status = Created;
  breaks = [];
  out = None;
  signal = None;
  end = None;
}

-- tasks, each with its slot, by rising slot
abbrev pub Entries : Type 0
Entries = List (ℕ × Task)

pub record BoardState : Type 0 where
  -- contents and leases
  pub store : StoreState
  pub tasks : Entries
  -- how many creates were accepted
  pub creates : ℕ

-- a board to which nothing has happened
abbrev pub empty : BoardState
empty = record { store = no_contents; tasks = []; creates = 0 }

-- ---- contents and leases

-- the board with this store
abbrev pub with_store : BoardState → StoreState → BoardState
with_store s store = record s { store = store }

-- the digests that tasks name, each that of its module
abbrev pub used_by : Entries → List (List ℕ)
used_by es = map (λ (e : ℕ × Task). e.1.process.module) es

-- ---- tasks

-- the task in a slot
abbrev pub task_in : ℕ → Entries → Option Task
task_in slot [] = None
task_in slot (e ∷ es) = if nat_eq e.0 slot then Some e.1 else task_in slot es

-- the task with an id, and its slot
abbrev pub entry_of : (id : List ℕ) → Entries → Option (ℕ × Task)
entry_of id = find (λ (e : ℕ × Task). bytes_eq e.1.id id)

abbrev pub task_of : (id : List ℕ) → Entries → Option Task
task_of id es = option_map (λ (e : ℕ × Task). e.1) (entry_of id es)

-- the entries with one more, in the order of their slots
abbrev pub put_task : ℕ → Task → Entries → Entries
put_task slot t [] = (slot, t) ∷ []
put_task slot t (e ∷ es) = if nat_lt slot e.0 then (slot, t) ∷ e ∷ es else e ∷ put_task slot t es

-- the entries with the task of this one's id changed to it
abbrev pub change_task : Task → Entries → Entries
change_task t [] = []
change_task t (e ∷ es) = if bytes_eq e.1.id t.id then (e.0, t) ∷ es else e ∷ change_task t es

-- the board with the task of this one's id changed to it
abbrev pub with_task : BoardState → Task → BoardState
with_task s t = record s { tasks = change_task t s.tasks }

-- the entries without the task of an id
abbrev pub remove_task : (id : List ℕ) → Entries → Entries
remove_task id [] = []
remove_task id (e ∷ es) = if bytes_eq e.1.id id then es else e ∷ remove_task id es

-- the board without the task of an id
abbrev pub without_task : BoardState → (id : List ℕ) → BoardState
without_task s id = record s { tasks = remove_task id s.tasks }

-- the board with a new task in a slot; each accepted create is counted
abbrev pub with_new_task : BoardState → ℕ → Task → BoardState
with_new_task s slot t = record s { tasks = put_task slot t s.tasks; creates = s.creates + 1 }
