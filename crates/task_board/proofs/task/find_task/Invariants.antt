use Rattle.std.proofs.Common.{◌≡◌}
use Rattle.slab.specs.Slab.{entries}
use Rattle.task_board.specs.BoardState.{entry_of}
use Rattle.task_board.proofs.task.find_task.Given as goal

-- no task before has the id
abbrev pub invariant-loop-slot : goal.invariant-loop-slot
invariant-loop-slot l = entry_of l.id (entries l.tasks) ≡ entry_of l.id l.slot-iterator
