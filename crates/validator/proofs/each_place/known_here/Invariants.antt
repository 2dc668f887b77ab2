use Rattle.std.proofs.Common.{◌≡◌, take}
use Rattle.validator.specs.Inside.EachPlace.{stacks_of}
use Rattle.validator.proofs.each_place.known_here.Given as goal

abbrev pub invariant-loop-operands : goal.invariant-loop-operands
invariant-loop-operands l = l.stacks ≡ stacks_of (take l.operands-index l.operands-items)
