use Rattle.std.proofs.Common.{◌≤◌, ◌-◌, length}
use Rattle.debugger.proofs.known_places.find.Given as goal

abbrev pub invariant-loop-low : goal.invariant-loop-low
invariant-loop-low l = l.high ≤ length l.known

abbrev pub decreases-loop-low : goal.decreases-loop-low
decreases-loop-low l = l.high - l.low
