-- The lifecycle of a task: which call is allowed in which status (own profile; the statuses are those of
-- the OCI Runtime Specification 1.0, runtime.md, and containerd's paused and pausing).
use Rattle.std.specs.Prelude.{Bool, true, false, if◌then◌else◌}
use Rattle.task_lifecycle.specs.declared.status.Status.{Status}
use Rattle.task_lifecycle.specs.declared.status.Status.TheVariants.{Created, Running, Pausing, Paused, Stopped}
use Rattle.task_lifecycle.specs.declared.lifecycle.Situation.{Situation}
use Rattle.task_lifecycle.specs.declared.lifecycle.TaskCall.{TaskCall}
use Rattle.task_lifecycle.specs.declared.lifecycle.TaskCall.TheVariants as call

abbrev pub allowed : TaskCall → Status → Bool
allowed call.Start Created = true
allowed call.Pause Running = true
allowed call.Resume Paused = true
allowed call.Kill Stopped = false
allowed call.Kill other = true
allowed call.Delete Stopped = true
allowed call.Break Created = true
allowed call.Break Paused = true
allowed call.Unbreak Created = true
allowed call.Unbreak Paused = true
allowed call.Step Paused = true
allowed call.Inspect any = true
allowed call.Peek any = true
allowed call.Output any = true
allowed call.State any = true
allowed call.Wait Running = false
allowed call.Wait Pausing = false
allowed call.Wait other = true
allowed other status = false

-- The status of a task after a call that its status allows. A call that is not named here leaves it; a
-- delete removes the task.
abbrev pub after : TaskCall → Situation → Status → Status
after call.Start at status = if at.ended then Stopped else (if at.at_break then Paused else Running)
after call.Pause at status = if at.out then Pausing else Paused
after call.Resume at status = Running
after call.Kill at status = if at.out then status else Stopped
after call.Step at status = if at.ended then Stopped else Paused
after other at status = status

-- a slice may be taken
abbrev pub is_running : Status → Bool
is_running Running = true
is_running other = false

abbrev pub is_pausing : Status → Bool
is_pausing Pausing = true
is_pausing other = false

abbrev pub is_stopped : Status → Bool
is_stopped Stopped = true
is_stopped other = false

-- a slice may be out, and its return adds turns
abbrev pub takes_turns : Status → Bool
takes_turns Running = true
takes_turns Pausing = true
takes_turns other = false

-- started and not ended
abbrev pub is_going : Status → Bool
is_going Created = false
is_going Stopped = false
is_going other = true
