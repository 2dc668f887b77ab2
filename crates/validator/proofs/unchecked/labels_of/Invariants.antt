use Rattle.std.proofs.Common.{◌≡◌, map, take, reverse}
use Rattle.validator.proofs.unchecked.labels_of.Given as goal

abbrev pub invariant-loop-each : goal.invariant-loop-each
invariant-loop-each l = l.labels ≡ reverse (map (λ t. t.now) (take l.each-index l.types))
