-- The instructions that values of the code represent.
use Rattle.wasm_ast.specs.declared.instr.Instr.{Instr}
use Rattle.wasm_ast.specs.declared.instr.Instr.TheVariants.{Simple, Block, Loop, If}
use Rattle.wasm_ast.specs.Syntax.{Op, simple, block, loop, if'}

abbrev pub op_of : Instr → Op
op_of (Simple s) = simple s
op_of (Block type body) = block type body.value
op_of (Loop type body) = loop type body.value
op_of (If type arms) = if' type arms.value.then_arm arms.value.else_arm
