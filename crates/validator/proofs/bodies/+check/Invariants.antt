use Rattle.std.proofs.Common.{◌≡◌, ◌+◌, ◌*◌, map, drop}
use Rattle.wasm_ast.specs.Syntax.{count, ops_count, ops_of}
use Rattle.wasm_ast.specs.View.{op_of}
use Rattle.validator.specs.Inside.Algorithm.{check_ops}
use Rattle.validator.specs.Inside.FunctionContext.{context_of}
use Rattle.validator.proofs.bodies.+check.Given as goal

abbrev pub decreases-check_instr : goal.decreases-check_instr
decreases-check_instr l = 6 * count (op_of l.instr.now)

abbrev pub decreases-check_block : goal.decreases-check_block
decreases-check_block l = 6 * ops_count l.body.now + 5

abbrev pub decreases-check_if : goal.decreases-check_if
decreases-check_if l = 6 * ops_count l.then_arm.now + 6 * ops_count l.else_arm.now + 5

abbrev pub decreases-check_else : goal.decreases-check_else
decreases-check_else l = 6 * ops_count l.else_arm.now + 4

abbrev pub decreases-check_arm : goal.decreases-check_arm
decreases-check_arm l = 6 * ops_count l.body.now + 3

abbrev pub decreases-check_body : goal.decreases-check_body
decreases-check_body l = 6 * ops_count l.body.now + 2

abbrev pub decreases-check_instrs : goal.decreases-check_instrs
decreases-check_instrs l = 6 * ops_count l.body.now + 1

-- the sequence is checked as the rest of it is
abbrev pub invariant-check_instrs-loop-i : goal.invariant-check_instrs-loop-i
invariant-check_instrs-loop-i l = record {
  same : ops_of (map op_of l.instrs) ≡ l.body;
  labels : l.labels ≡ l.fn.labels;
  outside : l.operands.outside ≡ l.fn.operands.outside;
  rest :
      check_ops (context_of l.function l.labels) (ops_of (map op_of (drop l.i l.instrs)))
      l.operands.stack
      ≡ check_ops (context_of l.function l.fn.labels) (ops_of (map op_of l.instrs)) l.fn.operands.stack;
}
