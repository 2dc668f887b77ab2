-- Of which calls the notes are told an end, besides their answers.
use Rattle.std.specs.Prelude.{◌≡◌, Ok}
use Rattle.task_lifecycle.specs.declared.status.Status.TheVariants.{Stopped}
use Rattle.task_requests.specs.declared.request.Request.{Request}
use Rattle.task_requests.specs.declared.request.Request.TheVariants.{Task}
use Rattle.task_requests.specs.declared.request.Ask.TheVariants.{Wait}
use Rattle.task_requests.specs.declared.request.Reply.TheVariants.{Kill}
use Rattle.task_board.specs.Step.{Answer}

-- a wait, before which a slice of its task may be run
abbrev pub IsWait : Request → Type 0
IsWait (Task id Wait) = Unit {0}
IsWait other = ⊥

-- a kill that has left its task stopped
abbrev pub HasStopped : Answer → Type 0
HasStopped (Ok (Kill id status)) = status ≡ Stopped
HasStopped other = ⊥
