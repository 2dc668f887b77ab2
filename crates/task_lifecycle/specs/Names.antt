-- How statuses, ends and signals are written, and the exit status that a task has.
use Rattle.std.specs.Prelude.{ℕ, ◌+◌, nat_eq, List, codes, if◌then◌else◌, Option, Some, None}
use Rattle.task_lifecycle.specs.declared.status.Status.{Status}
use Rattle.task_lifecycle.specs.declared.status.Status.TheVariants.{Created, Running, Pausing, Paused, Stopped}
use Rattle.task_lifecycle.specs.declared.status.Signal.{Signal}
use Rattle.task_lifecycle.specs.declared.status.Signal.TheVariants as signal
use Rattle.task_lifecycle.specs.declared.status.ExitRecord.{ExitRecord}
use Rattle.task_lifecycle.specs.declared.status.ExitRecord.TheVariants.{Return, Exit, Trapped, Kill}

abbrev pub status_name : Status → List ℕ
status_name Created = codes "created"
status_name Running = codes "running"
status_name Pausing = codes "pausing"
status_name Paused = codes "paused"
status_name Stopped = codes "stopped"

-- what ended a task
abbrev pub cause_name : ExitRecord → List ℕ
cause_name Return = codes "return"
cause_name (Exit code) = codes "exit"
cause_name (Trapped trap) = codes "trap"
cause_name (Kill signal) = codes "kill"

-- the number of a signal (POSIX)
abbrev pub signal_number : Signal → ℕ
signal_number signal.Kill = 9
signal_number signal.Terminate = 15

-- the signal with a number, if there is one
abbrev pub signal_of : (number : ℕ) → Option Signal
signal_of number = if nat_eq number 9 then Some signal.Kill
    else (if nat_eq number 15 then Some signal.Terminate else None)

-- 0 if the entry returned, the code of proc_exit, 134 for a trap, 128 plus the signal for a kill
abbrev pub exit_status : ExitRecord → ℕ
exit_status Return = 0
exit_status (Exit code) = code
exit_status (Trapped trap) = 134
exit_status (Kill signal) = 128 + signal_number signal
