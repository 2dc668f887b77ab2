use Rattle.std.proofs.Common.{◌≡◌, ◌++◌, map, length}
use Rattle.step_machine.specs.Inside.Levels.{Open}
use Rattle.label_machine.proofs.ShownLemmas.{opens_of}
use Rattle.label_machine.proofs.shown.places_of.Given as goal

-- the places so far, and those of the labels that are left
abbrev pub invariant-loop-left : goal.invariant-loop-left
invariant-loop-left l =
    l.places.items ++ map (λ (o : Open). o.place) (opens_of l.left) ≡ map (λ (o : Open). o.place) (opens_of l.labels)

abbrev pub decreases-loop-left : goal.decreases-loop-left
decreases-loop-left l = length l.left
