-- What may happen to a board: each request with its answer and its effect, a slice that is taken, and one
-- that returns.
use Rattle.std.specs.Prelude.{◌≡◌, ℕ, [], ◌&&◌, nat_le, List, length, Bool, true, false, if◌then◌else◌, Option, Some, None, is_some, option_and_then, Result, Ok, Err, unwrap_or, IsSomeAnd}
use Rattle.wasm_ast.specs.declared.module.Module.{Module}
use Rattle.wasm_ast.specs.declared.refusal.Refusal.{Refusal}
use Rattle.oci_config.specs.declared.process.ProcessConfig.{ProcessConfig}
use Rattle.task_requests.specs.declared.event.Event.{Event}
use Rattle.task_requests.specs.declared.event.Event.TheVariants as event
use Rattle.task_requests.specs.declared.event.EventReply.{EventReply}
use Rattle.task_requests.specs.declared.event.EventReply.TheVariants as answer
use Rattle.task_requests.specs.declared.request.Ask.{Ask}
use Rattle.task_requests.specs.declared.request.Request.{Request}
use Rattle.task_requests.specs.declared.request.Request.TheVariants as request
use Rattle.task_requests.specs.declared.request.Ask.TheVariants as ask
use Rattle.task_requests.specs.declared.request.Reply.{Reply}
use Rattle.task_requests.specs.declared.request.Reply.TheVariants as reply
use Rattle.task_lifecycle.specs.declared.status.Status.TheVariants.{Created}
use Rattle.task_lifecycle.specs.Names.{signal_of}
use Rattle.task_requests.specs.Limits.{max_budget}
use Rattle.content_leases.specs.Digests.{digest_of}
use Rattle.content_leases.specs.StoreState.{StoreState, content_in, with_content, without_content, with_lease, with_member, without_lease, unheld, collected}
use Rattle.content_leases.specs.Refusals.{Refusals, first_refusal, put_refusals, remove_refusals, lease_create_refusals, lease_add_refusals, lease_delete_refusals}
use Rattle.oci_config.specs.Config.{process_read}
use Rattle.oci_config.specs.Streams.{stream_of}
use Rattle.task_board.specs.BoardState.{Task, created_task, BoardState, used_by, with_store, task_in, task_of, with_task, without_task, with_new_task}
use Rattle.task_board.specs.Tasks.{state_of, output_of, frames_of, memory_at, started, paused, resumed, killed_by, place_of, with_break, without_break, can_lend, lent, HasReturned, stepped}
use Rattle.task_board.specs.Texts.{IsAssembled, CannotAssemble}
use Rattle.task_board.specs.Refusals.{create_refusals, CannotOpen, Openable, own_refusals, task_refusals}

-- ---- requests

abbrev pub Answer : Type 0
Answer = Result Reply Refusal

-- refused, and the board stays; or not, and the effect is as stated
abbrev pub DecidedBy :
    Option Refusal → (Effect : Type 0) → BoardState → Answer → BoardState → Type 0
DecidedBy (Some e) Effect s r s' = (r ≡ Err e) × (s' ≡ s)
DecidedBy None Effect s r s' = Effect

-- a request to the store: its refusals, what it is answered, and the store that it leaves
abbrev pub OnStore : BoardState → Refusals → Reply → StoreState → Answer → BoardState → Type 0
OnStore s refusals reply new r s' =
    DecidedBy (first_refusal refusals) ((r ≡ Ok reply) × (s' ≡ with_store s new)) s r s'

abbrev pub Puts : BoardState → (bytes : List ℕ) → Answer → BoardState → Type 0
Puts s bytes r s' =
    OnStore s (put_refusals s.store bytes) (reply.Put (digest_of bytes) (length bytes))
    (with_content s.store bytes)
    r s'

-- a put of a text is refused if no bytes are stored of it, and else is a put of those bytes
pub data PutsText (s : BoardState) (text : List ℕ) (r : Answer) (s' : BoardState) : Type 0 where
  refused : (e : Refusal) → CannotAssemble text e → r ≡ Err e → s' ≡ s → PutsText s text r s'
  stored : (bytes : List ℕ) → IsAssembled text bytes → Puts s bytes r s' → PutsText s text r s'

-- what a request does to a task: what it is answered, and the task that it leaves (None: the task is removed)
abbrev pub Done : Type 0
Done = Reply × Option Task

-- the board with what a request leaves of a task
abbrev pub with_left : BoardState → Task → Option Task → BoardState
with_left s t None = without_task s t.id
with_left s t (Some t') = with_task s t'

-- a request to the task with an id, if there is one: the request's own refusals, and what it does. Both
-- look at the task alone
abbrev pub OnFound : (id : List ℕ) → (own : Task → Refusals) → (does : Task → Done) → Option Task
    → BoardState → Answer → BoardState → Type 0
OnFound id own does found s r s' =
    DecidedBy (first_refusal (task_refusals id own found))
    (IsSomeAnd found (λ (t : Task). (r ≡ Ok (does t).0) × (s' ≡ with_left s t (does t).1))) s r s'

abbrev pub OnTask : (id : List ℕ) → (own : Task → Refusals) → (does : Task → Done)
    → BoardState → Answer → BoardState → Type 0
OnTask id own does s r s' = OnFound id own does (task_of id s.tasks) s r s'

-- the task of an accepted create: it enters an empty slot, whose choice is open
abbrev pub Enters : BoardState → Task → BoardState → Type 0
Enters s t s' = (slot : ℕ) × (task_in slot s.tasks ≡ None) × (s' ≡ with_new_task s slot t)

-- a create from stored bytes under a process
abbrev pub Opens : BoardState → (id bytes : List ℕ) → ProcessConfig → Answer → BoardState → Type 0
Opens s id bytes p (Err e) s' = CannotOpen bytes p e × (s' ≡ s)
Opens s id bytes p (Ok r) s' = (m : Module) × Openable bytes p m × (r ≡ reply.Create id Created)
    × Enters s (created_task id s.creates bytes m p) s'

-- a create that none of the first refusals concerns
abbrev pub Creates : BoardState → (config id : List ℕ) → Answer → BoardState → Type 0
Creates s config id r s' = (p : ProcessConfig) × (bytes : List ℕ) × (process_read config ≡ Some p)
    × (content_in s.store.contents p.module ≡ Some bytes) × Opens s id bytes p r s'

-- the reply that tells these bytes, and how many they are
abbrev pub output_reply : (id bytes : List ℕ) → Reply
output_reply id bytes = reply.Output bytes id (length bytes)

-- what each request to a task does to it
abbrev pub does : Ask → Task → Done
does ask.Start t = (reply.Start t.id (started t).status, Some (started t))
does ask.Pause t = (reply.Pause t.id (paused t).status, Some (paused t))
does ask.Resume t = (reply.Resume t.id (resumed t).status, Some (resumed t))
does (ask.Kill signal) t =
    (reply.Kill t.id (killed_by (signal_of signal) t).status, Some (killed_by (signal_of signal) t))
does ask.Delete t = (reply.Delete (state_of t), None)
does ask.State t = (reply.State (state_of t), Some t)
does ask.Wait t = (reply.Wait (state_of t), Some t)
does (ask.Output stream) t = (output_reply t.id (output_of (stream_of stream) t), Some t)
does (ask.Break func place) t = (reply.Break t.id, Some (with_break t (place_of func place)))
does (ask.Unbreak func place) t = (reply.Unbreak t.id, Some (without_break t (place_of func place)))
does (ask.Step count) t = (reply.Step (state_of (stepped t count)), Some (stepped t count))
does ask.Inspect t = (reply.Inspect (frames_of t) t.id t.turns, Some t)
does (ask.Peek address length) t =
    (reply.Peek (unwrap_or (memory_at t address length) []) t.id, Some t)

-- it leaves each task as it is
abbrev pub LeavesTask : Ask → Type 0
LeavesTask a = (t : Task) → (does a t).1 ≡ Some t

-- What a request may be answered on a board, and the board that it leaves. A refusal leaves the board. What
-- a task names is held until the task is deleted.
abbrev pub Answers : BoardState → Request → Answer → BoardState → Type 0
Answers s (request.Put bytes) r s' = Puts s bytes r s'
Answers s (request.PutText text) r s' = PutsText s text r s'
Answers s (request.Remove digest) r s' =
    OnStore s (remove_refusals (used_by s.tasks) s.store digest) (reply.Remove digest)
    (without_content s.store digest) r s'
Answers s (request.LeaseCreate id) r s' =
    OnStore s (lease_create_refusals s.store id) (reply.LeaseCreate id) (with_lease s.store id) r s'
Answers s (request.LeaseAdd digest id) r s' =
    OnStore s (lease_add_refusals s.store digest id) (reply.LeaseAdd digest id)
    (with_member s.store digest id) r s'
Answers s (request.LeaseDelete id) r s' =
    OnStore s (lease_delete_refusals s.store id) (reply.LeaseDelete id)
    (without_lease s.store id) r s'
Answers s request.Gc r s' = OnStore s [] (reply.Gc (unheld (used_by s.tasks) s.store))
    (collected (used_by s.tasks) s.store) r s'
Answers s (request.Create config id) r s' =
    DecidedBy (first_refusal (create_refusals s config id)) (Creates s config id r s') s r s'
Answers s (request.Task id a) r s' = OnTask id (own_refusals a) (does a) s r s'

-- ---- slices

abbrev pub is_budget : ℕ → Bool
is_budget budget = nat_le 1 budget && nat_le budget max_budget

-- the board with the task's slice out, if it can go out
abbrev pub lends : BoardState → (budget : ℕ) → Task → Option BoardState
lends s budget t = if can_lend t then Some (with_task s (lent t budget)) else None

-- a slice is taken of a task that is there, running and idle, for a budget from 1 to 1,000,000
abbrev pub taken : BoardState → (id : List ℕ) → (budget : ℕ) → Option BoardState
taken s id budget =
    if is_budget budget then option_and_then (lends s budget) (task_of id s.tasks) else None

abbrev pub is_out : Option Task → Bool
is_out found = is_some (option_and_then (λ (t : Task). t.out) found)

-- the slice of the task with an id returns
abbrev pub Returns : BoardState → Option Task → BoardState → Type 0
Returns s found s' =
    IsSomeAnd found (λ (t : Task). (t' : Task) × HasReturned t t' × (s' ≡ with_task s t'))

-- ---- events

-- what an event may be answered on a board, and the board that it leaves; an answer of another kind
-- of event is impossible
abbrev pub Step : BoardState → Event → EventReply → BoardState → Type 0
Step s (event.Call r) (answer.Called a) s' = Answers s r a s'
Step s (event.Take id budget) (answer.Taken true) s' = taken s id budget ≡ Some s'
Step s (event.Take id budget) (answer.Taken false) s' = (taken s id budget ≡ None) × (s' ≡ s)
Step s (event.Return id) (answer.Returned true) s' = Returns s (task_of id s.tasks) s'
Step s (event.Return id) (answer.Returned false) s' =
    (is_out (task_of id s.tasks) ≡ false) × (s' ≡ s)
Step s e a s' = ⊥
