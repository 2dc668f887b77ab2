-- When a wait for a task is not answered Busy.
use Rattle.std.specs.Prelude.{Bool, true, Option, Some, None}
use Rattle.task_lifecycle.specs.declared.lifecycle.TaskCall.TheVariants as call
use Rattle.task_lifecycle.specs.Lifecycle.{allowed}
use Rattle.task_board.specs.BoardState.{Task}

-- there is no task, or it is created, paused or stopped
abbrev pub is_settled : Option Task → Bool
is_settled None = true
is_settled (Some t) = allowed call.Wait t.status
