use Rattle.std.specs.Prelude.{All}
use Rattle.debugger.specs.Inside.KnownPlaces.{HasFrame}
use Rattle.debugger.proofs.frame_places.all_places.Given as goal

abbrev pub invariant-loop-index : goal.invariant-loop-index
invariant-loop-index l = All (λ p. HasFrame l.machine.module p.func p.place) l.places.items
