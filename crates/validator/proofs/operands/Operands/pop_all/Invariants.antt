use Rattle.std.proofs.Common.{◌≡◌, ◌≤◌, length, take, reverse}
use Rattle.validator.specs.Inside.Algorithm.{pops}
use Rattle.validator.specs.Inside.Blocks.{KeepsRest}
use Rattle.validator.proofs.operands.Operands.pop_all.Given as goal

-- what is left to take is taken as all of it is
abbrev pub invariant-loop-left : goal.invariant-loop-left
invariant-loop-left l = record {
  within : l.left ≤ length l.types;
  rest : KeepsRest l.fn.self l.self;
  takes : pops l.fn.self.stack.unreachable (reverse (take l.left l.types)) l.self.stack.types
      ≡ pops l.fn.self.stack.unreachable (reverse l.types) l.fn.self.stack.types;
}

abbrev pub decreases-loop-left : goal.decreases-loop-left
decreases-loop-left l = l.left
