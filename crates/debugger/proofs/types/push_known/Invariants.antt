use Rattle.std.proofs.Common.{◌≡◌, ◌++◌, drop}
use Rattle.debugger.specs.Inside.Typed.{known_of}
use Rattle.debugger.proofs.types.push_known.Given as goal

abbrev pub invariant-loop-val_type : goal.invariant-loop-val_type
invariant-loop-val_type l =
    l.known.items ++ known_of (drop l.val_type-index l.types) ≡ l.fn.known.items ++ known_of l.types
