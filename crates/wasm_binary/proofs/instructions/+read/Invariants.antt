use Rattle.std.proofs.Common.{◌≡◌, ◌-◌, ◌+◌, ◌*◌, map, length}
use Rattle.wasm_ast.specs.View.{op_of}
use Rattle.wasm_binary.specs.Inside.Reading.{inner_of, read_ops, read_body}
use Rattle.wasm_binary.proofs.ItemLoop.{with_front}
use Rattle.wasm_binary.proofs.instructions.+read.Given as goal

abbrev pub decreases-read_instr : goal.decreases-read_instr
decreases-read_instr l = 5 * l.more

abbrev pub decreases-read_body : goal.decreases-read_body
decreases-read_body l = 5 * l.more + 1

abbrev pub decreases-read_else : goal.decreases-read_else
decreases-read_else l = 5 * l.more + 2

abbrev pub decreases-read_if : goal.decreases-read_if
decreases-read_if l = 5 * l.more + 3

abbrev pub decreases-read_enclosed : goal.decreases-read_enclosed
decreases-read_enclosed l = 5 * l.more + 3

abbrev pub decreases-read_nested : goal.decreases-read_nested
decreases-read_nested l = 5 * l.more + 4

abbrev pub invariant-read_body-loop : goal.invariant-read_body-loop
invariant-read_body-loop l =
    with_front (map op_of l.items.items) (read_ops (inner_of l.more) (length l.bytes - l.counter) l.rest)
    ≡ read_body l.more l.bytes
