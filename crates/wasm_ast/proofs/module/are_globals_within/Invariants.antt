use Rattle.std.proofs.Common.{◌≡◌, nat_le, drop}
use Rattle.wasm_ast.specs.Limits.{ops_depth, max_nesting, are_all}
use Rattle.wasm_ast.specs.declared.module.Global.{Global}
use Rattle.wasm_ast.proofs.module.are_globals_within.Given as goal

-- all are within the limit as the rest of them are
abbrev pub invariant-loop-global : goal.invariant-loop-global
invariant-loop-global l =
    are_all (λ (x : Global). nat_le (ops_depth x.init) max_nesting) (drop l.global-index l.globals)
    ≡ are_all (λ (x : Global). nat_le (ops_depth x.init) max_nesting) l.globals
