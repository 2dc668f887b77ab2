-- What a call finds of the task that it names.
use Rattle.std.specs.Prelude.{Option, option_map, option_and_then}
use Rattle.task_requests.specs.declared.request.Request.{Request}
use Rattle.task_board.specs.BoardState.{Task, BoardState, task_of}
use Rattle.task_board.specs.Claims.{asked_of}
use Rattle.call_journal.specs.declared.entry.Found.{Found}

abbrev pub found_in : Task → Found
found_in t = record { n = t.turns; out = t.out }

-- what a request finds on a board: the count and the out mark of the task that it names, if that is there
abbrev pub found_of : BoardState → Request → Option Found
found_of s r = option_map found_in (option_and_then (λ id. task_of id s.tasks) (asked_of r))
