use Rattle.std.proofs.Common.{◌≡◌, ℕ, List, ◌++◌, length}
use Rattle.request_lines.specs.Lines.{lines_of}
use Rattle.file_commands.specs.Inside.Script.{AreMarked}
use Rattle.file_commands.proofs.replay.read_script.Given as goal

abbrev pub invariant-loop-left : goal.invariant-loop-left
invariant-loop-left l =
    (done : List (List ℕ)) × (lines_of l.bytes ≡ done ++ lines_of l.left)
    × AreMarked done l.script.marks.items l.script.events.items

abbrev pub decreases-loop-left : goal.decreases-loop-left
decreases-loop-left l = length l.left
