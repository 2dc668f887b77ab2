use Rattle.std.proofs.Common.{◌≡◌, ℕ, ◌+◌, ◌*◌, map, drop, Option}
use Rattle.wasm_ast.specs.Syntax.{count, ops_count, ops_of}
use Rattle.wasm_ast.specs.View.{op_of}
use Rattle.validator.specs.PlaceTypes.{Known}
use Rattle.validator.specs.Inside.Algorithm.{check_ops}
use Rattle.validator.specs.Inside.FunctionContext.{context_of}
use Rattle.validator.specs.Inside.PlaceWalk.{ops_known}
use Rattle.validator.specs.Inside.EachPlace.{FoundAt, NextFrom, Follows, stacks_of, IsKnown}
use Rattle.validator.proofs.each_place.+each.Given as goal

abbrev pub decreases-each_instr : goal.decreases-each_instr
decreases-each_instr l = 6 * count (op_of l.instr.now)

abbrev pub decreases-each_if : goal.decreases-each_if
decreases-each_if l = 6 * ops_count l.then_arm.now + 6 * ops_count l.else_arm.now + 4

abbrev pub decreases-each_block : goal.decreases-each_block
decreases-each_block l = 6 * ops_count l.body.now + 4

abbrev pub decreases-each_arm : goal.decreases-each_arm
decreases-each_arm l = 6 * ops_count l.body.now + 3

abbrev pub decreases-each_in : goal.decreases-each_in
decreases-each_in l = 6 * ops_count l.body.now + 1

-- what is left of the sequence
abbrev pub invariant-each_in-loop-instr : goal.invariant-each_in-loop-instr
invariant-each_in-loop-instr l = record {
  same : ops_of (map op_of l.instr-items) ≡ l.body;
  labels : l.opened.labels ≡ l.fn.opened.labels;
  outer : l.opened.outer.items ≡ l.fn.opened.outer.items;
  outside : l.opened.operands.outside ≡ l.fn.opened.operands.outside;
  next : l.next + ops_count (ops_of (map op_of (drop l.instr-index l.instr-items)))
      ≡ l.fn.first + ops_count (ops_of (map op_of l.instr-items));
  from : NextFrom l.stops.places.now l.found.items l.next;
  rest : check_ops (context_of l.stops.function l.fn.opened.labels)
      (ops_of (map op_of (drop l.instr-index l.instr-items))) l.opened.operands.stack
      ≡ check_ops (context_of l.stops.function l.fn.opened.labels) (ops_of (map op_of l.instr-items))
      l.fn.opened.operands.stack;
  finds : (all : ℕ → Option Known)
      → Follows all l.fn.first (ops_count (ops_of (map op_of l.instr-items)))
      (ops_known (context_of l.stops.function l.fn.opened.labels) (stacks_of l.fn.opened.outer.items)
      (ops_of (map op_of l.instr-items)) l.fn.opened.operands.stack)
      → FoundAt (λ k t. IsKnown (all k) t) l.stops.places.now l.fn.found.items
      → Follows all l.next (ops_count (ops_of (map op_of (drop l.instr-index l.instr-items))))
      (ops_known (context_of l.stops.function l.fn.opened.labels) (stacks_of l.fn.opened.outer.items)
      (ops_of (map op_of (drop l.instr-index l.instr-items))) l.opened.operands.stack)
      × FoundAt (λ k t. IsKnown (all k) t) l.stops.places.now l.found.items;
}
