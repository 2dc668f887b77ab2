use Rattle.std.proofs.Common.{◌≡◌, ◌&&◌, map, nat_le, drop}
use Rattle.wasm_ast.specs.Syntax.{ops_of}
use Rattle.wasm_ast.specs.View.{op_of}
use Rattle.wasm_ast.specs.Limits.{ops_depth}
use Rattle.wasm_ast.specs.Ranged.{RangedOps}
use Rattle.wasm_ast.proofs.instr.+fits_ranged.Given as goal

-- the sequence fits as the instructions so far and the rest do, and it is in range if the rest is
abbrev pub invariant-Body::fits_ranged-loop-instr : goal.invariant-Body::fits_ranged-loop-instr
invariant-Body::fits_ranged-loop-instr l =
    let rest = ops_of (map op_of (drop l.instr-index l.instr-items)) in
    ((l.fits && nat_le (ops_depth rest) l.limit) ≡ nat_le (ops_depth l.self) l.limit)
    × (RangedOps rest → RangedOps l.self)
