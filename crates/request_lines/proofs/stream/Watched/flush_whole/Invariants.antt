use Rattle.std.specs.Io.KnownBytes.{Keeps}
use Rattle.request_lines.proofs.stream.Watched.flush_whole.Given as goal

-- flushes that were interrupted changed nothing
abbrev pub invariant-loop-self : goal.invariant-loop-self
invariant-loop-self g l = Keeps (g.S.Write.contents l.fn.self.stream) (g.S.Write.contents l.self.stream)

abbrev pub decreases-loop-self : goal.decreases-loop-self
decreases-loop-self g l = l.self.calls.left
