use Rattle.std.proofs.Common.{◌≡◌, ◌++◌, ◌≤◌, map, reverse, length}
use Rattle.step_machine.specs.Inside.ShownLevels.{level_frame}
use Rattle.label_machine.specs.Inside.View.{level_of}
use Rattle.label_machine.specs.Inside.Runs.{levels}
use Rattle.label_machine.proofs.shown.shown_frames.Given as goal

-- the frames so far, and those of the callers that are left
abbrev pub invariant-loop-left : goal.invariant-loop-left
invariant-loop-left l =
    (length l.left ≤ length l.run.callers)
    × (l.frames.items ++ map level_frame (map level_of (reverse l.left)) ≡ map level_frame (levels l.run))

abbrev pub decreases-loop-left : goal.decreases-loop-left
decreases-loop-left l = length l.left
