use Rattle.std.proofs.Common.{◌≡◌, map, drop}
use Rattle.wasm_ast.specs.Syntax.{ops_of}
use Rattle.wasm_ast.specs.View.{op_of}
use Rattle.validator.specs.Inside.Algorithm.{check_ops}
use Rattle.validator.specs.Inside.FunctionContext.{context_of}
use Rattle.validator.proofs.unchecked.pass_all.Given as goal

-- the sequence is checked as the rest of it is
abbrev pub invariant-loop-instr : goal.invariant-loop-instr
invariant-loop-instr l = record {
  same : ops_of (map op_of l.instr-items) ≡ l.body;
  labels : l.labels ≡ l.fn.labels;
  rest :
      check_ops (context_of l.function l.labels) (ops_of (map op_of (drop l.instr-index l.instr-items)))
      l.operands.stack
      ≡ check_ops (context_of l.function l.fn.labels) (ops_of (map op_of l.instr-items)) l.fn.operands.stack;
}
