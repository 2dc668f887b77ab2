use Rattle.std.proofs.Common.{◌≡◌, drop}
use Rattle.wasm_ast.specs.Limits.{is_func_within, are_all}
use Rattle.wasm_ast.proofs.module.are_funcs_within.Given as goal

-- the functions are within the limits as the rest of them are
abbrev pub invariant-loop-func : goal.invariant-loop-func
invariant-loop-func l =
    are_all (is_func_within l.types) (drop l.func-index l.funcs) ≡ are_all (is_func_within l.types) l.funcs
