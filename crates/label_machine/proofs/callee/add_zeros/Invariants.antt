use Rattle.std.proofs.Common.{◌≡◌, ◌++◌, map, take}
use Rattle.wasm_ast.specs.Types.{zero_of}
use Rattle.label_machine.proofs.callee.add_zeros.Given as goal

-- the zeros so far
abbrev pub invariant-loop-val_type : goal.invariant-loop-val_type
invariant-loop-val_type l = l.locals.items ≡ l.fn.locals.items ++ map zero_of (take l.val_type-index l.types)
