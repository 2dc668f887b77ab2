use Rattle.std.proofs.Common.{◌≡◌, drop}
use Rattle.step_machine.specs.Instantiation.{are_elements_inside}
use Rattle.step_machine.proofs.instantiate.are_elements_inside.Given as goal

-- all are inside as the rest of them are
abbrev pub invariant-loop-element : goal.invariant-loop-element
invariant-loop-element l =
    are_elements_inside l.size l.elements ≡ are_elements_inside l.size (drop l.element-index l.elements)
