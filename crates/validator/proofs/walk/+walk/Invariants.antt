use Rattle.std.proofs.Common.{◌+◌, ◌*◌}
use Rattle.wasm_ast.specs.Syntax.{count, ops_count}
use Rattle.wasm_ast.specs.View.{op_of}
use Rattle.validator.proofs.walk.+walk.Given as goal

abbrev pub decreases-enter_instr : goal.decreases-enter_instr
decreases-enter_instr l = 4 * count (op_of l.instr.now)

abbrev pub decreases-enter_if : goal.decreases-enter_if
decreases-enter_if l = 4 * ops_count l.then_arm.now + 4 * ops_count l.else_arm.now + 3

abbrev pub decreases-enter_block : goal.decreases-enter_block
decreases-enter_block l = 4 * ops_count l.body.now + 2

abbrev pub decreases-enter_body : goal.decreases-enter_body
decreases-enter_body l = 4 * ops_count l.body.now + 1
