use Rattle.std.proofs.Common.{◌≡◌, ◌+◌, ◌*◌, ◌++◌, string_bytes, map, drop}
use Rattle.wasm_ast.specs.Syntax.{count, ops_count, ops_of}
use Rattle.wasm_ast.specs.View.{op_of}
use Rattle.file_commands.specs.Checked.{ops_lines}
use Rattle.file_commands.proofs.check.+push.Given as goal

abbrev pub decreases-push_body : goal.decreases-push_body
decreases-push_body l = 2 * ops_count l.body.now + 1

abbrev pub decreases-push_instr : goal.decreases-push_instr
decreases-push_instr l = 2 * count (op_of l.instr.now)

-- the lines so far, and those of the rest
abbrev pub invariant-push_body-loop-instr : goal.invariant-push_body-loop-instr
invariant-push_body-loop-instr l = record {
  same : ops_of (map op_of l.instr-items) ≡ l.body;
  place : l.here + ops_count (ops_of (map op_of (drop l.instr-index l.instr-items))) ≡ l.fn.place + ops_count l.body;
  lines : string_bytes l.list ++ ops_lines l.fn.func l.here (ops_of (map op_of (drop l.instr-index l.instr-items)))
      ≡ string_bytes l.fn.list ++ ops_lines l.fn.func l.fn.place l.body;
}
