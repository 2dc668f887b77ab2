use Rattle.std.proofs.Common.{◌≡◌, nat_le, drop}
use Rattle.wasm_ast.specs.Limits.{ops_depth, max_nesting, are_all}
use Rattle.wasm_ast.specs.declared.module.Segment.{Segment}
use Rattle.wasm_ast.proofs.module.are_segments_within.Given as goal

-- all are within the limit as the rest of them are
abbrev pub invariant-loop-segment : goal.invariant-loop-segment
invariant-loop-segment l =
    are_all (λ (x : Segment). nat_le (ops_depth x.offset) max_nesting) (drop l.segment-index l.segments)
    ≡ are_all (λ (x : Segment). nat_le (ops_depth x.offset) max_nesting) l.segments
