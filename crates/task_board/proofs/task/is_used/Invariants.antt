use Rattle.std.proofs.Common.{◌≡◌}
use Rattle.slab.specs.Slab.{entries}
use Rattle.content_leases.specs.StoreState.{is_among}
use Rattle.task_board.specs.BoardState.{used_by}
use Rattle.task_board.proofs.task.is_used.Given as goal

-- no task before names the digest
abbrev pub invariant-loop-slot : goal.invariant-loop-slot
invariant-loop-slot l = is_among l.digest (used_by (entries l.tasks)) ≡ is_among l.digest (used_by l._slot-iterator)
