use Rattle.std.proofs.Common.{◌≡◌, ◌+◌, ℕ}
use Rattle.slab.specs.Slab.{entries}
use Rattle.task_board.specs.BoardState.{used_by}
use Rattle.task_board.specs.Inside.OpenedModules.{opened_of, idle_bytes, most_idle_bytes}
use Rattle.task_board.proofs.opened.is_much_idle.Given as goal

-- what is left are 1 MiB without the bytes of those before
abbrev pub invariant-loop-digest : goal.invariant-loop-digest
invariant-loop-digest l =
    let bytes : (_ → ℕ) = λ es. idle_bytes l.store.state.contents (used_by (entries l.tasks)) (opened_of es) in
    bytes l.map.entries + l.left ≡ most_idle_bytes + bytes l.digest-iterator
