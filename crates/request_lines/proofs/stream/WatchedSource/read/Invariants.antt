use Rattle.std.proofs.Common.{◌≤◌}
use Rattle.std.specs.Io.KnownBytes.{Keeps}
use Rattle.request_lines.proofs.stream.WatchedSource.read.Given as goal

-- reads that were interrupted gave nothing
abbrev pub invariant-loop-self : goal.invariant-loop-self
invariant-loop-self g l =
    Keeps (g.S.Read.remaining l.fn.self.stream) (g.S.Read.remaining l.self.stream)
    × (l.self.calls.left ≤ l.fn.self.calls.left)

abbrev pub decreases-loop-self : goal.decreases-loop-self
decreases-loop-self g l = l.self.calls.left
