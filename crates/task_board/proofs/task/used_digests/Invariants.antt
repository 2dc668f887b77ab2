use Rattle.std.proofs.Common.{◌≡◌, ◌++◌}
use Rattle.slab.specs.Slab.{entries}
use Rattle.task_board.specs.BoardState.{used_by}
use Rattle.task_board.proofs.task.used_digests.Given as goal

-- those before are the digests so far
abbrev pub invariant-loop-slot : goal.invariant-loop-slot
invariant-loop-slot l = used_by (entries l.tasks) ≡ l.digests.items ++ used_by l._slot-iterator
