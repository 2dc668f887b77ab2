-- What a request is prepared as.
use Rattle.std.specs.Prelude.{◌≡◌, ◌≢◌, ℕ, List, Option, None, Some, Ok, Err}
use Rattle.std.specs.Arc.{arc_value}
use Rattle.wasm_ast.specs.declared.module.Module.{Module}
use Rattle.wasm_ast.specs.declared.refusal.Refusal.{Refusal}
use Rattle.wasm_ast.specs.declared.refusal.Refusal.TheVariants as refusal
use Rattle.oci_config.specs.declared.process.ProcessConfig.{ProcessConfig}
use Rattle.task_board.specs.declared.mark.Mark.{Mark}
use Rattle.task_board.specs.declared.mark.NewBreaks.{NewBreaks}
use Rattle.task_board.specs.declared.prepared.Plan.{Plan}
use Rattle.task_board.specs.declared.prepared.Plan.TheVariants as plan
use Rattle.task_requests.specs.declared.request.Request.{Request}
use Rattle.task_requests.specs.declared.request.Request.TheVariants as request
use Rattle.task_requests.specs.declared.request.Ask.{Ask}
use Rattle.task_requests.specs.declared.request.Ask.TheVariants as ask
use Rattle.task_lifecycle.specs.declared.lifecycle.TaskCall.TheVariants as call
use Rattle.content_leases.specs.StoreState.{content_in}
use Rattle.content_leases.specs.Refusals.{Refusals, first_refusal}
use Rattle.oci_config.specs.Config.{process_read}
use Rattle.task_board.specs.BoardState.{Task, created_task, BoardState, entry_of}
use Rattle.task_board.specs.BoardValue.{Room}
use Rattle.task_board.specs.Refusals.{create_refusals, unless_allowed, task_refusals, Openable, CannotOpen, own_refusals}
use Rattle.task_board.specs.Step.{does, LeavesTask, Answers}
use Rattle.task_board.specs.Inside.Changes.{change_ask}
use Rattle.task_board.specs.Inside.Marks.{mark_ask, marked_places}
use Rattle.task_board.specs.Inside.StoreChanges.{IsMadeFor, StorePrepared}

-- a task that may enter in answer to a request
pub record CreatePrepared (s : BoardState) (r : Request) (task : Task) (id : List ℕ) : Type 0 where
  pub config : List ℕ
  pub is : r ≡ request.Create config id
  pub accepted : first_refusal (create_refusals s config id) ≡ None
  pub read : process_read config ≡ Some task.process
  pub content : content_in s.store.contents task.process.module ≡ Some task.bytes
  pub openable : Openable task.bytes task.process task.module
  pub created : task ≡ created_task id s.creates task.bytes task.module task.process

-- the task of an id is in that slot, and a request with these refusals of its own is accepted
pub record CallPrepared (s : BoardState) (own : Task → Refusals) (slot : ℕ) (id : List ℕ) :
    Type 0 where
  pub task : Task
  pub found : entry_of id s.tasks ≡ Some (slot, task)
  pub accepted : first_refusal (task_refusals id own (Some task)) ≡ None

-- these are the breakpoints of the task of an id in that slot after a request that is accepted
pub record MarkPrepared (s : BoardState) (m : Mark) (slot : ℕ) (id : List ℕ) (b : NewBreaks) :
    Type 0 where
  pub call : CallPrepared s (own_refusals (mark_ask m)) slot id
  pub own : arc_value b.own ≡ marked_places m call.task.breaks
  pub lent : arc_value b.lent ≡ marked_places m call.task.breaks

-- a task is prepared so from stored bytes under a process
abbrev pub PlansTask : BoardState → (id bytes : List ℕ) → ProcessConfig → Plan → Type 0
PlansTask s id bytes p (plan.Refused e) = (e ≢ refusal.NoMemory) × CannotOpen bytes p e
PlansTask s id bytes p (plan.Create task answered) =
    (answered ≡ id) × (m : Module) × Openable bytes p m
    × (task ≡ created_task id s.creates bytes m p)
PlansTask s id bytes p other = ⊥

-- none of the refusals of what is asked concerns the task
abbrev pub IsAccepted : Ask → Task → Type 0
IsAccepted a t = first_refusal (own_refusals a t) ≡ None

-- the plan names the task in this slot, by this id
abbrev pub Names : (slot : ℕ) → (id : List ℕ) → (slot' : ℕ) → (id' : List ℕ) → Type 0
Names slot id slot' id' = (slot' ≡ slot) × (id' ≡ id)

-- what is asked of a task that is there, in that slot and by that id, is prepared so
abbrev pub PlansAsk : Task → (slot : ℕ) → (id : List ℕ) → Ask → Plan → Type 0
PlansAsk t slot id a (plan.Refused e) =
    (e ≢ refusal.NoMemory) × (first_refusal (own_refusals a t) ≡ Some e)
PlansAsk t slot id a (plan.Answered reply) = IsAccepted a t × LeavesTask a × (reply ≡ (does a t).0)
PlansAsk t slot id a (plan.Change c slot' id') =
    (a ≡ change_ask c) × IsAccepted a t × Names slot id slot' id'
PlansAsk t slot id a (plan.Delete slot' id') =
    (a ≡ ask.Delete) × IsAccepted a t × Names slot id slot' id'
PlansAsk t slot id a (plan.Breaks m slot' id' b) =
    (a ≡ mark_ask m) × IsAccepted a t × Names slot id slot' id'
    × (arc_value b.own ≡ marked_places m t.breaks) × (arc_value b.lent ≡ marked_places m t.breaks)
PlansAsk t slot id a other = ⊥

-- a request that leaves each task as it is
abbrev pub IsQuestion : Request → Type 0
IsQuestion (request.Task id a) = LeavesTask a
IsQuestion other = ⊥

-- the request is prepared so on a board with that state and room
abbrev pub Plans : BoardState → Room → Request → Plan → Type 0
Plans s room r (plan.Refused e) = (e ≢ refusal.NoMemory) × Answers s r (Err e) s
Plans s room r (plan.Answered reply) = IsQuestion r × Answers s r (Ok reply) s
Plans s room r (plan.Store c) = IsMadeFor r c × StorePrepared s room c
Plans s room r (plan.Create task id) = CreatePrepared s r task id
Plans s room r (plan.Change c slot id) =
    (r ≡ request.Task id (change_ask c)) × CallPrepared s (own_refusals (change_ask c)) slot id
Plans s room r (plan.Delete slot id) = (r ≡ request.Task id ask.Delete)
    × CallPrepared s (unless_allowed call.Delete refusal.WrongStatus) slot id
Plans s room r (plan.Breaks m slot id breaks) =
    (r ≡ request.Task id (mark_ask m)) × MarkPrepared s m slot id breaks

abbrev pub refusal_in : Plan → Option Refusal
refusal_in (plan.Refused e) = Some e
refusal_in other = None
