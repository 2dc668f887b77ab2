use Rattle.std.proofs.Common.{◌≤◌, length, take}
use Rattle.std.specs.Io.KnownBytes.{Appends}
use Rattle.request_lines.proofs.stream.Watched.write_whole.Given as goal

-- the bytes before `at` are written
abbrev pub invariant-loop-at : goal.invariant-loop-at
invariant-loop-at g l =
    (l.at ≤ length l.bytes)
    × Appends (g.S.Write.contents l.fn.self.stream) (g.S.Write.contents l.self.stream) (take l.at l.bytes)

abbrev pub decreases-loop-at : goal.decreases-loop-at
decreases-loop-at g l = l.self.calls.left
