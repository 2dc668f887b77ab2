use Rattle.std.proofs.Common.{◌≡◌, length, nat_le, drop}
use Rattle.wasm_ast.specs.Limits.{max_results, are_all}
use Rattle.wasm_ast.specs.declared.values.FuncType.{FuncType}
use Rattle.wasm_ast.proofs.module.are_types_within.Given as goal

-- the types are within the limit as the rest of them are
abbrev pub invariant-loop-func_type : goal.invariant-loop-func_type
invariant-loop-func_type l =
    are_all (λ (t : FuncType). nat_le (length t.results) max_results) (drop l.func_type-index l.types)
    ≡ are_all (λ (t : FuncType). nat_le (length t.results) max_results) l.types
