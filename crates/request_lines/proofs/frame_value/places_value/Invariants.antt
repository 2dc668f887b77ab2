use Rattle.std.proofs.Common.{◌≡◌, ◌++◌, map, drop}
use Rattle.request_lines.specs.Shape.{count}
use Rattle.serde_json.specs.View.{view}
use Rattle.request_lines.proofs.frame_value.places_value.Given as goal

-- those before are in the list
abbrev pub invariant-loop-place : goal.invariant-loop-place
invariant-loop-place l = map count l.places ≡ map view l.list.items ++ map count (drop l.place-index l.places)
