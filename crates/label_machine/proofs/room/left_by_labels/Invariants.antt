use Rattle.std.proofs.Common.{◌≡◌, ◌+◌, drop}
use Rattle.std.specs.List.{sum_by}
use Rattle.label_machine.specs.Inside.Runs.{values_below}
use Rattle.label_machine.proofs.room.left_by_labels.Given as goal

-- the room that is left, and what is yet to be counted
abbrev pub invariant-loop-label : goal.invariant-loop-label
invariant-loop-label l =
    l.left + sum_by values_below l.labels ≡ l.fn.room + sum_by values_below (drop l.label-index l.labels)
