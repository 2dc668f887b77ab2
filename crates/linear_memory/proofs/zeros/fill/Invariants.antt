use Rattle.std.specs.Prelude.{◌≡◌, ◌++◌, ◌-◌, ◌≤◌, replicate, take}
use Rattle.std.specs.Mem.Slots.{slots_items, SamePlaces}
use Rattle.linear_memory.specs.Inside.Fronts.{HasFront}
use Rattle.linear_memory.proofs.zeros.fill.Given as goal

abbrev pub invariant-loop-i : goal.invariant-loop-i
invariant-loop-i l =
    (l.from ≤ l.i) × (l.i ≤ l.to)
    × (take l.i (slots_items l.filled) ≡ take l.from (slots_items l.fn.row) ++ replicate (l.i - l.from) 0)
    × HasFront l.filled l.i × SamePlaces l.fn.row l.filled

abbrev pub decreases-loop-i : goal.decreases-loop-i
decreases-loop-i l = l.to - l.i
