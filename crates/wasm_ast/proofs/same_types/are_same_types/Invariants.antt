use Rattle.std.proofs.Common.{◌≡◌, ◌&&◌, drop}
use Rattle.wasm_ast.specs.Types.{are_same_types}
use Rattle.wasm_ast.proofs.same_types.are_same_types.Given as goal

-- the lists are the same as those before and the rest of them are
abbrev pub invariant-loop-i : goal.invariant-loop-i
invariant-loop-i l = (l.same && are_same_types (drop l.i l.types) (drop l.i l.others)) ≡ are_same_types l.types l.others
