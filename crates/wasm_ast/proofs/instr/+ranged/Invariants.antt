use Rattle.std.proofs.Common.{map, drop}
use Rattle.wasm_ast.specs.Syntax.{ops_of}
use Rattle.wasm_ast.specs.View.{op_of}
use Rattle.wasm_ast.specs.Ranged.{RangedOps}
use Rattle.wasm_ast.proofs.instr.+ranged.Given as goal

-- the sequence is in range if the rest of it is
abbrev pub invariant-Body::ranged-loop-instr : goal.invariant-Body::ranged-loop-instr
invariant-Body::ranged-loop-instr l =
    RangedOps (ops_of (map op_of (drop l.instr-index l.instr-items))) → RangedOps l.self
