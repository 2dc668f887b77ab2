-- How a task has ended, and after how many turns.
use Rattle.std.specs.Prelude.{ℕ, Option, option_map, option_and_then}
use Rattle.task_lifecycle.specs.declared.status.ExitRecord.{ExitRecord}
use Rattle.task_board.specs.BoardState.{Task}

-- none if there is no task, or it has not ended
abbrev pub end_of : Option Task → Option (ℕ × ExitRecord)
end_of = option_and_then (λ (t : Task). option_map (λ e. (t.turns, e)) t.end)
