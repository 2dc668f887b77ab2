use Rattle.std.proofs.Common.{◌≡◌, reverse, take}
use Rattle.validator.specs.Inside.Blocks.{types_of}
use Rattle.validator.proofs.operands.Operands.spread.Given as goal

-- the groups that were seen are there one by one
abbrev pub invariant-loop-group : goal.invariant-loop-group
invariant-loop-group l = record {
  all : types_of l.group-items ≡ l.self.stack.types;
  seen : reverse l.types.items ≡ types_of (take l.group-index l.group-items);
}
