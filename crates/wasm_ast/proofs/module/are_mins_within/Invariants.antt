use Rattle.std.proofs.Common.{◌≡◌, nat_le, drop}
use Rattle.wasm_ast.specs.Limits.{are_all}
use Rattle.wasm_ast.specs.declared.module.Limits.{Limits}
use Rattle.wasm_ast.proofs.module.are_mins_within.Given as goal

-- all are within the limit as the rest of them are
abbrev pub invariant-loop-limit : goal.invariant-loop-limit
invariant-loop-limit l =
    are_all (λ (x : Limits). nat_le x.min l.most) (drop l.limit-index l.limits)
    ≡ are_all (λ (x : Limits). nat_le x.min l.most) l.limits
