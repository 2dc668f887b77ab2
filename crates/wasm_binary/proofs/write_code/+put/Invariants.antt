use Rattle.std.proofs.Common.{◌≡◌, ◌+◌, ◌*◌, ◌++◌, map, take}
use Rattle.wasm_ast.specs.Syntax.{count, ops_count, ops_of}
use Rattle.wasm_ast.specs.View.{op_of}
use Rattle.wasm_binary.specs.Canonical.{canon_ops}
use Rattle.wasm_binary.proofs.write_code.+put.Given as goal

abbrev pub decreases-put_body : goal.decreases-put_body
decreases-put_body l = 2 * ops_count l.body.now + 1

abbrev pub decreases-put_instr : goal.decreases-put_instr
decreases-put_instr l = 2 * count (op_of l.instr.now)

abbrev pub invariant-put_body-loop-instr : goal.invariant-put_body-loop-instr
invariant-put_body-loop-instr l = record {
  same : ops_of (map op_of l.instr-items) ≡ l.body;
  put : l.out.items ≡ l.fn.out.items ++ canon_ops (ops_of (map op_of (take l.instr-index l.instr-items)));
}
