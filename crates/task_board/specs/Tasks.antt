-- What happens to a task: it is started, its slice goes out, and it advances by turns.
use Rattle.std.specs.Prelude.{◌≡◌, ℕ, ◌+◌, ◌<◌, ◌≤◌, ◌&&◌, ◌||◌, not, List, [], ◌∷◌, ◌++◌, filter, Bool, true, false, Option, Some, None, is_some, is_none, unwrap_or}
use Rattle.wasm_ast.specs.declared.place.Place.{Place}
use Rattle.debugger.specs.Peek.{peeked}
use Rattle.step_machine.specs.declared.ends.End.{End}
use Rattle.step_machine.specs.declared.ends.End.TheVariants as ends
use Rattle.step_machine.specs.Configuration.{Configuration, State as ExecutionState}
use Rattle.step_machine.specs.Instantiation.{after, ended}
use Rattle.step_machine.specs.MachineView.{written_to}
use Rattle.oci_config.specs.declared.stream.Stream.{Stream}
use Rattle.wasm_ast.specs.declared.shown.ShownFrame.{ShownFrame}
use Rattle.step_machine.specs.Shown.{shown as frames_shown}
use Rattle.step_machine.specs.Slices.{is_place, at_break, ends_slice, turns_made}
use Rattle.task_lifecycle.specs.declared.lifecycle.Situation.{Situation}
use Rattle.task_lifecycle.specs.declared.lifecycle.TaskCall.TheVariants as call
use Rattle.task_requests.specs.declared.request.TaskState.{TaskState}
use Rattle.task_lifecycle.specs.declared.status.Status.{Status}
use Rattle.task_lifecycle.specs.declared.status.Status.TheVariants.{Running, Paused, Stopped}
use Rattle.task_lifecycle.specs.declared.status.Signal.{Signal}
use Rattle.task_lifecycle.specs.declared.status.ExitRecord.{ExitRecord}
use Rattle.task_lifecycle.specs.declared.status.ExitRecord.TheVariants as exit
use Rattle.task_lifecycle.specs.Lifecycle.{after as after_call, is_running, is_pausing, takes_turns}
use Rattle.task_board.specs.BoardState.{Task}

-- what a call sees of a task
abbrev pub state_of : Task → TaskState
state_of t = record { id = t.id; n = t.turns; status = t.status; end = t.end }

-- the configuration of its execution after n turns
abbrev pub configuration_of : Task → (n : ℕ) → Configuration
configuration_of t n = after t.module t.process n

-- where its execution is after n turns
abbrev pub execution_at : Task → (n : ℕ) → ExecutionState
execution_at t n = (configuration_of t n).state

-- after n turns the next instruction is at one of its breakpoints
abbrev pub is_break_at : Task → (n : ℕ) → Bool
is_break_at t n = at_break t.breaks (execution_at t n)

-- what it has written to an output stream, if that is one
abbrev pub output_of : Option Stream → Task → List ℕ
output_of None t = []
output_of (Some stream) t = written_to stream (configuration_of t t.turns).store

-- the frames of its execution, the innermost first
abbrev pub frames_of : Task → List ShownFrame
frames_of t = frames_shown (execution_at t t.turns)

-- the bytes of its memory at an address, if they may be shown
abbrev pub memory_at : Task → (address length : ℕ) → Option (List ℕ)
memory_at t address length = peeked (configuration_of t t.turns).store.memory address length

-- ---- where a task lands

-- a status, and how the task has ended if it is stopped
abbrev pub Standing : Type 0
Standing = Status × Option ExitRecord

-- the task with its machine on the board, no signal pending, and this status and end
abbrev pub idle_task : Task → Standing → Task
idle_task t standing = record t { status = standing.0; out = None; signal = None; end = standing.1 }

abbrev pub exit_of : End → ExitRecord
exit_of ends.Returned = exit.Return
exit_of (ends.Exited code) = exit.Exit code
exit_of (ends.Trapped trap) = exit.Trapped trap

-- what an exit record says of the end that an execution has come to after this number of turns: it is
-- that end; or, of a kill, there is none. Before the first turn a kill says nothing: a created task that
-- has nothing to run may be killed
abbrev pub IsTrueOf : ExitRecord → (turns : ℕ) → Option End → Type 0
IsTrueOf exit.Return turns end = end ≡ Some ends.Returned
IsTrueOf (exit.Exit code) turns end = end ≡ Some (ends.Exited code)
IsTrueOf (exit.Trapped trap) turns end = end ≡ Some (ends.Trapped trap)
IsTrueOf (exit.Kill signal) turns end = 1 ≤ turns → end ≡ None

-- what the record says is so of the task's execution after its turns
abbrev pub EndsSo : Task → ExitRecord → Type 0
EndsSo t e = IsTrueOf e t.turns (ended (execution_at t t.turns))

-- where a task lands that is idle again: its own end comes first, then a pending signal, then what pauses it;
-- else it is running
abbrev pub landing : Option End → Option Signal → (pauses : Bool) → Standing
landing (Some e) signal pauses = (Stopped, Some (exit_of e))
landing None (Some signal) pauses = (Stopped, Some (exit.Kill signal))
landing None None true = (Paused, None)
landing None None false = (Running, None)

-- the task idle again after n turns
abbrev pub idle_after : Task → (n : ℕ) → Option Signal → (pauses : Bool) → Task
idle_after t n signal pauses =
    idle_task (record t { turns = n }) (landing (ended (execution_at t n)) signal pauses)

-- ---- start

-- a breakpoint at the first instruction pauses it
abbrev pub started : Task → Task
started t = idle_after t t.turns None (is_break_at t t.turns)

-- ---- pause, resume, kill

-- what decides where a call leads that leaves the task with n turns
abbrev pub situation_at : Task → (n : ℕ) → Situation
situation_at t n = record {
  out = is_some t.out;
  ended = is_some (ended (execution_at t n));
  at_break = is_break_at t n;
}

abbrev pub paused : Task → Task
paused t = record t { status = after_call call.Pause (situation_at t t.turns) t.status }

abbrev pub resumed : Task → Task
resumed t = record t { status = after_call call.Resume (situation_at t t.turns) t.status }

-- stopped at once if its machine is on the board; while its slice is out, the first of two signals is pending
abbrev pub killed_while : (out : Option ℕ) → Signal → Task → Task
killed_while None signal t = idle_task t (Stopped, Some (exit.Kill signal))
killed_while (Some budget) signal t = record t { signal = Some (unwrap_or t.signal signal) }

abbrev pub killed : Signal → Task → Task
killed signal t = killed_while t.out signal t

-- killed by the signal with a number, if there is one
abbrev pub killed_by : Option Signal → Task → Task
killed_by None t = t
killed_by (Some signal) t = killed signal t

-- ---- breakpoints

-- the place with these numbers
abbrev pub place_of : (func place : ℕ) → Place
place_of func place = record { func = func; instr = place }

-- the task with a breakpoint more, after all others
abbrev pub with_break : Task → Place → Task
with_break t p = record t { breaks = t.breaks ++ p ∷ [] }

abbrev pub is_other : Place → Place → Bool
is_other p b = not (is_place b p.func p.instr)

-- the task without a breakpoint
abbrev pub without_break : Task → Place → Task
without_break t p = record t { breaks = filter (is_other p) t.breaks }

-- ---- turns

-- the task after k more turns, idle again: a pending signal ends it, and a breakpoint pauses it, as does a
-- pause that came meanwhile
abbrev pub advanced : Task → (k : ℕ) → Task
advanced t k =
    idle_after t (t.turns + k) t.signal (is_pausing t.status || is_break_at t (t.turns + k))

-- it may make k turns at one go: it is running or pausing, has not ended, and none of the turns before
-- the last ends a slice
pub record MayAdvance (t : Task) (k : ℕ) : Type 0 where
  pub status : takes_turns t.status ≡ true
  pub some : 1 ≤ k
  pub goes : ended (execution_at t t.turns) ≡ None
  pub uncut : (j : ℕ) → 1 ≤ j → j < k → ends_slice t.breaks (execution_at t (t.turns + j)) ≡ false

-- ---- slices

abbrev pub can_lend : Task → Bool
can_lend t = is_running t.status && is_none t.out

-- the task with a slice of this budget out
abbrev pub lent : Task → (budget : ℕ) → Task
lent t budget = record t { out = Some budget }

-- how many turns its slice of this budget makes
abbrev pub slice_turns : Task → (budget : ℕ) → ℕ
slice_turns t budget = turns_made t.module t.process t.turns t.breaks budget

-- its slice returns: it advances by the turns of the slice
pub record HasReturned (t t' : Task) : Type 0 where
  pub budget : ℕ
  pub out : t.out ≡ Some budget
  pub legal : MayAdvance t (slice_turns t budget)
  pub advances : t' ≡ advanced t (slice_turns t budget)

-- ---- steps

-- the task after a step of at most this many turns, which its own end or a breakpoint ends early: stopped if
-- it has ended, else paused
abbrev pub stepped : Task → (count : ℕ) → Task
stepped t count = idle_after t (t.turns + slice_turns t count) None true
