use Rattle.std.specs.Prelude.{All}
use Rattle.debugger.specs.Inside.KnownPlaces.{IsKnown}
use Rattle.debugger.proofs.known_places.add_each.Given as goal

abbrev pub invariant-loop-index : goal.invariant-loop-index
invariant-loop-index l = All (IsKnown l.of) l.known.items
