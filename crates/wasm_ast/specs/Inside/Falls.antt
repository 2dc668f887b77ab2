-- A sequence has more instructions than what its blocks contain: why recursion over it ends.
use Rattle.std.specs.Prelude.{◌≤◌, List, [], ◌∷◌, map}
use Rattle.std.proofs.Common.{arith}
use denote.Param.Weighed.{most}
use Rattle.wasm_ast.specs.Syntax.{count, ops_count, ops_of}
use Rattle.wasm_ast.specs.View.{op_of}
use Rattle.wasm_ast.specs.declared.instr.Instr.{Instr}
use Rattle.wasm_ast.specs.declared.instr.Instr.TheVariants.{Simple, Block, Loop, If}
use Rattle.wasm_ast.specs.declared.instr.Body.TheDeep.{deep-Instr}

deep_le_count : (i : Instr) → deep-Instr i ≤ count (op_of i)
deep_le_count (Simple s) = omega arith
deep_le_count (Block type body) = omega arith
deep_le_count (Loop type body) = omega arith
deep_le_count (If type arms) = omega arith

pub most_le_count : (is : List Instr) → most deep-Instr is ≤ ops_count (ops_of (map op_of is))
most_le_count [] = omega arith
most_le_count (i ∷ is) = omega (arith, deep_le_count i, most_le_count is)
