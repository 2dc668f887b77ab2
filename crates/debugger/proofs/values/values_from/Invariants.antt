use Rattle.std.proofs.Common.{◌≡◌, take, drop}
use Rattle.debugger.specs.Inside.Typed.{values_of}
use Rattle.debugger.proofs.values.values_from.Given as goal

-- those of the words so far
abbrev pub invariant-loop-index : goal.invariant-loop-index
invariant-loop-index l = l.values.items ≡ take l.index (values_of l.types (drop l.from l.frame.words))
