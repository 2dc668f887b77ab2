-- What a reply says of a task, and when that is true: each part by the reduction of the module that the
-- task's stored bytes encode, after as many turns as the task has made.
use Rattle.std.specs.Prelude.{◌≡◌, ℕ, List, true, Option, Some, None, is_some, option_map, option_and_then}
use Rattle.wasm_binary.specs.Spelled.{IsSpelled}
use Rattle.validator.specs.Typing.{ValidModule}
use Rattle.oci_config.specs.Config.{process_read}
use Rattle.oci_config.specs.Streams.{stream_of}
use Rattle.oci_config.specs.declared.stream.Stream.{Stream}
use Rattle.content_leases.specs.StoreState.{StoreState, content_in}
use Rattle.step_machine.specs.Instantiation.{ended}
use Rattle.step_machine.specs.MachineView.{written_to}
use Rattle.step_machine.specs.Shown.{shown}
use Rattle.debugger.specs.Peek.{peeked}
use Rattle.task_lifecycle.specs.declared.status.Status.{Status}
use Rattle.task_lifecycle.specs.declared.status.Status.TheVariants.{Created, Stopped}
use Rattle.task_lifecycle.specs.declared.status.ExitRecord.{ExitRecord}
use Rattle.task_lifecycle.specs.Lifecycle.{is_going}
use Rattle.task_requests.specs.declared.request.Request.{Request}
use Rattle.task_requests.specs.declared.request.Request.TheVariants as request
use Rattle.task_requests.specs.declared.request.Ask.TheVariants as ask
use Rattle.task_requests.specs.declared.request.Reply.{Reply}
use Rattle.task_requests.specs.declared.request.Reply.TheVariants as reply
use Rattle.task_requests.specs.declared.request.TaskState.{TaskState}
use Rattle.task_board.specs.BoardState.{Task, BoardState}
use Rattle.task_board.specs.Tasks.{configuration_of, execution_at, EndsSo}
use Rattle.task_board.specs.Step.{does, LeavesTask}

-- the id of the task that a request is about; a create is about the task that it is to make
abbrev pub asked_of : Request → Option (List ℕ)
asked_of (request.Create config id) = Some id
asked_of (request.Task id a) = Some id
asked_of other = None

-- the board of which its reply speaks: the one that it leaves; of a delete the one that it found
abbrev pub told_on : Request → (found left : BoardState) → BoardState
told_on (request.Task id ask.Delete) found left = found
told_on other found left = left

-- ---- what a reply says

-- the id, the turns, the status and the end
abbrev pub state_told : Reply → Option TaskState
state_told (reply.Delete state) = Some state
state_told (reply.State state) = Some state
state_told (reply.Wait state) = Some state
state_told (reply.Step state) = Some state
state_told other = None

abbrev pub id_told : Reply → Option (List ℕ)
id_told (reply.Create id status) = Some id
id_told (reply.Start id status) = Some id
id_told (reply.Pause id status) = Some id
id_told (reply.Resume id status) = Some id
id_told (reply.Kill id status) = Some id
id_told (reply.Output bytes id size) = Some id
id_told (reply.Break id) = Some id
id_told (reply.Unbreak id) = Some id
id_told (reply.Inspect frames id n) = Some id
id_told (reply.Peek bytes id) = Some id
id_told a = option_map (λ s. s.id) (state_told a)

abbrev pub turns_told : Reply → Option ℕ
turns_told (reply.Inspect frames id n) = Some n
turns_told a = option_map (λ s. s.n) (state_told a)

abbrev pub status_told : Reply → Option Status
status_told (reply.Create id status) = Some status
status_told (reply.Start id status) = Some status
status_told (reply.Pause id status) = Some status
status_told (reply.Resume id status) = Some status
status_told (reply.Kill id status) = Some status
status_told a = option_map (λ s. s.status) (state_told a)

abbrev pub end_told : Reply → Option ExitRecord
end_told a = option_and_then (λ (s : TaskState). s.end) (state_told a)

-- ---- when that is true

-- a status: what is created has made no turn, and what is running, pausing or paused has not ended
pub record StatusIsTrue (t : Task) (status : Status) : Type 0 where
  pub own : status ≡ t.status
  pub created : status ≡ Created → t.turns ≡ 0
  pub going : is_going status ≡ true → ended (execution_at t t.turns) ≡ None

-- the frames, the output or the bytes of memory that a request asks for
abbrev pub ShowsTruly : Task → Request → Reply → Type 0
ShowsTruly t (request.Task id ask.Inspect) (reply.Inspect frames name n) =
    frames ≡ shown (execution_at t t.turns)
ShowsTruly t (request.Task id (ask.Output number)) (reply.Output bytes name size) =
    (stream : Stream) × (stream_of number ≡ Some stream)
    × (bytes ≡ written_to stream (configuration_of t t.turns).store)
ShowsTruly t (request.Task id (ask.Peek address length)) (reply.Peek bytes name) =
    peeked (configuration_of t t.turns).store.memory address length ≡ Some bytes
ShowsTruly t (request.Task id ask.Inspect) other = ⊥
ShowsTruly t (request.Task id (ask.Output number)) other = ⊥
ShowsTruly t (request.Task id (ask.Peek address length)) other = ⊥
ShowsTruly t other a = Unit {0}

-- a request that leaves the task is answered what `does` says of it, and nothing else
abbrev pub AnswersTruly : Task → Request → Reply → Type 0
AnswersTruly t (request.Task id k) a = LeavesTask k → a ≡ (does k t).0
AnswersTruly t other a = Unit {0}

-- what a reply to a request says of a task, on a board with this store
pub record SaysTruly (store : StoreState) (t : Task) (q : Request) (a : Reply) : Type 0 where
  -- its module is valid, and the one that those bytes encode that are stored under its config's digest
  pub stored : content_in store.contents t.process.module ≡ Some t.bytes
  pub encoded : IsSpelled t.bytes t.module
  pub valid : ValidModule t.module
  -- its process is the one that the config of its create asks for
  pub process : (config id : List ℕ) → q ≡ request.Create config id
      → process_read config ≡ Some t.process
  pub id : id_told a ≡ Some t.id
  pub turns : (n : ℕ) → turns_told a ≡ Some n → n ≡ t.turns
  pub status : (status : Status) → status_told a ≡ Some status → StatusIsTrue t status
  -- its end is that of the reduction, or a kill's; and exactly a stopped task has one
  pub end : (e : ExitRecord) → end_told a ≡ Some e → EndsSo t e
  pub stopped : (x : TaskState) → state_told a ≡ Some x
      → (x.status ≡ Stopped → is_some x.end ≡ true) × (is_some x.end ≡ true → x.status ≡ Stopped)
  pub shows : ShowsTruly t q a
  pub answers : AnswersTruly t q a
