use Rattle.std.proofs.Common.{◌≡◌, ℕ, List, ◌+◌, ◌*◌, map, drop, reverse}
use Rattle.wasm_ast.specs.Syntax.{count, ops_count, ops_of}
use Rattle.wasm_ast.specs.View.{op_of}
use Rattle.validator.specs.Inside.EachPlace.{FoundAt, NextFrom, Follows}
use Rattle.step_machine.specs.Places.{opens_at}
use Rattle.debugger.specs.Inside.OpenBlocks.{HasBlocks}
use Rattle.debugger.proofs.open_blocks.+walk.Given as goal

abbrev pub decreases-walk_instr : goal.decreases-walk_instr
decreases-walk_instr l = 4 * count (op_of l.instr.now)

abbrev pub decreases-walk_if : goal.decreases-walk_if
decreases-walk_if l = 4 * ops_count l.then_arm.now + 4 * ops_count l.else_arm.now + 3

abbrev pub decreases-walk_block : goal.decreases-walk_block
decreases-walk_block l = 4 * ops_count l.body.now + 3

abbrev pub decreases-walk_body : goal.decreases-walk_body
decreases-walk_body l = 4 * ops_count l.body.now + 1

-- what is left of the sequence
abbrev pub invariant-walk_body-loop-instr : goal.invariant-walk_body-loop-instr
invariant-walk_body-loop-instr l = record {
  same : ops_of (map op_of l.instr-items) ≡ l.body;
  blocks : l.blocks.items ≡ l.fn.blocks.items;
  next : l.next + ops_count (ops_of (map op_of (drop l.instr-index l.instr-items)))
      ≡ l.fn.first + ops_count (ops_of (map op_of l.instr-items));
  from : NextFrom l.stops.places.now l.found.items l.next;
  finds : (all : ℕ → List ℕ) → Follows all l.fn.first (ops_count (ops_of (map op_of l.instr-items)))
      (opens_at (ops_of (map op_of l.instr-items)) l.fn.first (reverse l.fn.blocks.items))
      → FoundAt (λ k b. HasBlocks (all k) b) l.stops.places.now l.fn.found.items
      → Follows all l.next (ops_count (ops_of (map op_of (drop l.instr-index l.instr-items))))
      (opens_at (ops_of (map op_of (drop l.instr-index l.instr-items))) l.next (reverse l.fn.blocks.items))
      × FoundAt (λ k b. HasBlocks (all k) b) l.stops.places.now l.found.items;
}
