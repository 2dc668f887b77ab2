use Rattle.std.proofs.Common.{◌≡◌, ◌+◌, ◌*◌, map, drop}
use Rattle.wasm_ast.specs.Syntax.{count, ops_count, ops_of}
use Rattle.wasm_ast.specs.View.{op_of}
use Rattle.label_machine.proofs.places.+places.Given as goal

abbrev pub decreases-places_of : goal.decreases-places_of
decreases-places_of l = 2 * count (op_of l.instr.now)

abbrev pub decreases-places_in : goal.decreases-places_in
decreases-places_in l = 2 * ops_count l.body.now + 1

-- what is counted, and the rest
abbrev pub invariant-places_in-loop-instr : goal.invariant-places_in-loop-instr
invariant-places_in-loop-instr l = record {
  same : ops_of (map op_of l.instr-items) ≡ l.body;
  counted :
      l.total + ops_count (ops_of (map op_of (drop l.instr-index l.instr-items)))
      ≡ ops_count (ops_of (map op_of l.instr-items));
}
