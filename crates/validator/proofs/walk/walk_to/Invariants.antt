use Rattle.std.proofs.Common.{◌≡◌, map, drop, List}
use Rattle.wasm_ast.specs.Syntax.{ops_of}
use Rattle.wasm_ast.specs.View.{op_of}
use Rattle.validator.specs.PlaceTypes.{Stack}
use Rattle.validator.specs.Inside.FunctionContext.{context_of}
use Rattle.validator.specs.Inside.PlaceWalk.{ops_known}
use Rattle.validator.proofs.walk.walk_to.Given as goal

-- what is known at the place is what is known at what is left of it, in the rest
abbrev pub invariant-loop-instr : goal.invariant-loop-instr
invariant-loop-instr l = record {
  same : ops_of (map op_of l.instr-items) ≡ l.body;
  labels : l.labels ≡ l.fn.labels;
  rest : (outside : List Stack)
      → ops_known (context_of l.function l.fn.labels) outside (ops_of (map op_of l.instr-items)) l.fn.operands.stack
      l.fn.place
      ≡ ops_known (context_of l.function l.fn.labels) outside (ops_of (map op_of (drop l.instr-index l.instr-items)))
      l.operands.stack l.left;
}
