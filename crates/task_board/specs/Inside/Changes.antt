-- The requests that change a task, in one.
use Rattle.std.specs.Prelude.{ℕ, List, Bool, true, false}
use Rattle.task_lifecycle.specs.declared.lifecycle.TaskCall.{TaskCall}
use Rattle.task_lifecycle.specs.declared.lifecycle.TaskCall.TheVariants as call
use Rattle.task_lifecycle.specs.Names.{signal_number}
use Rattle.task_board.specs.declared.change.Change.{Change}
use Rattle.task_board.specs.declared.change.Change.TheVariants as change
use Rattle.task_requests.specs.declared.request.Ask.{Ask}
use Rattle.task_requests.specs.declared.request.Ask.TheVariants as ask
use Rattle.task_requests.specs.declared.request.Reply.{Reply}
use Rattle.task_requests.specs.declared.request.Reply.TheVariants as reply
use Rattle.task_board.specs.BoardState.{Task}
use Rattle.task_board.specs.Tasks.{state_of, started, paused, resumed, killed, stepped}

abbrev pub change_call : Change → TaskCall
change_call change.Start = call.Start
change_call change.Pause = call.Pause
change_call change.Resume = call.Resume
change_call (change.Kill signal) = call.Kill
change_call (change.Step count) = call.Step

-- the status of the task is all that decides whether it is made
abbrev pub IsPlain : Change → Type 0
IsPlain (change.Step count) = ⊥
IsPlain other = Unit {0}

-- it lets the task wait for a worker, if that is running afterwards
abbrev pub enters : Change → Bool
enters change.Start = true
enters change.Resume = true
enters other = false

-- what is asked with it
abbrev pub change_ask : Change → Ask
change_ask change.Start = ask.Start
change_ask change.Pause = ask.Pause
change_ask change.Resume = ask.Resume
change_ask (change.Kill signal) = ask.Kill (signal_number signal)
change_ask (change.Step count) = ask.Step count

-- what is answered, under this id, with the task after the change
abbrev pub change_reply : Change → (id : List ℕ) → Task → Reply
change_reply change.Start id t = reply.Start id t.status
change_reply change.Pause id t = reply.Pause id t.status
change_reply change.Resume id t = reply.Resume id t.status
change_reply (change.Kill signal) id t = reply.Kill id t.status
change_reply (change.Step count) id t = reply.Step (record (state_of t) { id = id })

abbrev pub changed : Change → Task → Task
changed change.Start t = started t
changed change.Pause t = paused t
changed change.Resume t = resumed t
changed (change.Kill signal) t = killed signal t
changed (change.Step count) t = stepped t count
