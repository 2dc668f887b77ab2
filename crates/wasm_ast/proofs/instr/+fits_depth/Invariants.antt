use Rattle.std.proofs.Common.{◌≡◌, map, nat_le, drop}
use Rattle.wasm_ast.specs.Syntax.{ops_of}
use Rattle.wasm_ast.specs.View.{op_of}
use Rattle.wasm_ast.specs.Limits.{ops_depth}
use Rattle.wasm_ast.proofs.instr.+fits_depth.Given as goal

-- the sequence fits as the rest of it does
abbrev pub invariant-Body::fits_depth-loop-instr : goal.invariant-Body::fits_depth-loop-instr
invariant-Body::fits_depth-loop-instr l =
    nat_le (ops_depth (ops_of (map op_of (drop l.instr-index l.instr-items)))) l.limit
    ≡ nat_le (ops_depth l.self) l.limit
