use Rattle.std.specs.Prelude.{All}
use Rattle.std.specs.List.Sorted.{IsStrictlyIncreasing}
use Rattle.debugger.specs.Inside.KnownPlaces.{IsKnown, HasFrame}
use Rattle.debugger.proofs.known_places.known_of_frames.Given as goal

abbrev pub invariant-loop-at : goal.invariant-loop-at
invariant-loop-at l = record {
  known : All (IsKnown l.machine.module) l.known.items;
  rising : IsStrictlyIncreasing l.rising.items;
  places : All (HasFrame l.machine.module l.func) l.rising.items;
}
