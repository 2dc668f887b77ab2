use Rattle.validator.specs.Inside.Packed.{AreOfTypes}
use Rattle.validator.proofs.packed.packed_params.Given as goal

abbrev pub invariant-loop-of : goal.invariant-loop-of
invariant-loop-of l = AreOfTypes l.types l.packed.items
