use Rattle.std.proofs.Common.{◌≡◌, nat_le, drop}
use Rattle.wasm_ast.specs.Limits.{ops_depth, max_nesting, are_all}
use Rattle.wasm_ast.specs.declared.module.Element.{Element}
use Rattle.wasm_ast.proofs.module.are_elements_within.Given as goal

-- all are within the limit as the rest of them are
abbrev pub invariant-loop-element : goal.invariant-loop-element
invariant-loop-element l =
    are_all (λ (x : Element). nat_le (ops_depth x.offset) max_nesting) (drop l.element-index l.elements)
    ≡ are_all (λ (x : Element). nat_le (ops_depth x.offset) max_nesting) l.elements
