use Rattle.std.proofs.Common.{◌≡◌, ◌&&◌, All, take, drop}
use Rattle.wasm_ast.specs.Limits.{is_func_within, are_all}
use Rattle.wasm_ast.specs.Ranged.{RangedFunc}
use Rattle.wasm_ast.proofs.module.are_funcs_ranged_within.Given as goal

-- the functions are within the limits as those so far and the rest are, and those so far are in range
abbrev pub invariant-loop-func : goal.invariant-loop-func
invariant-loop-func l =
    ((l.within && are_all (is_func_within l.types) (drop l.func-index l.funcs))
    ≡ are_all (is_func_within l.types) l.funcs)
    × All RangedFunc (take l.func-index l.funcs)
