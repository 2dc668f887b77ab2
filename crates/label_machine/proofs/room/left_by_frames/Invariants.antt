use Rattle.std.proofs.Common.{◌≡◌, ◌+◌, drop}
use Rattle.std.specs.List.{sum_by}
use Rattle.label_machine.specs.Inside.Runs.{values_in}
use Rattle.label_machine.proofs.room.left_by_frames.Given as goal

-- the room that is left, and what is yet to be counted
abbrev pub invariant-loop-frame : goal.invariant-loop-frame
invariant-loop-frame l =
    l.left + sum_by values_in l.frames ≡ l.fn.room + sum_by values_in (drop l.frame-index l.frames)
