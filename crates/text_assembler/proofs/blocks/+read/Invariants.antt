use Rattle.std.proofs.Common.{◌≡◌, ◌-◌, ◌+◌, ◌*◌, map, length}
use Rattle.wasm_ast.specs.View.{op_of}
use Rattle.text_assembler.specs.Reading.{read_some}
use Rattle.text_assembler.specs.Inside.Answers.{with_front}
use Rattle.text_assembler.specs.Instructions.{is_end, one_op, read_body}
use Rattle.text_assembler.specs.Inside.Bodies.{inner_of}
use Rattle.text_assembler.proofs.blocks.+read.Given as goal

abbrev pub decreases-read_instr : goal.decreases-read_instr
decreases-read_instr l = 8 * l.more

abbrev pub decreases-push_instr : goal.decreases-push_instr
decreases-push_instr l = 8 * l.more + 1

abbrev pub decreases-push_body : goal.decreases-push_body
decreases-push_body l = 8 * l.more + 2

abbrev pub decreases-read_labelled : goal.decreases-read_labelled
decreases-read_labelled l = 8 * l.more + 3

abbrev pub decreases-read_else : goal.decreases-read_else
decreases-read_else l = 8 * l.more + 4

abbrev pub decreases-read_if : goal.decreases-read_if
decreases-read_if l = 8 * l.more + 5

abbrev pub decreases-read_enclosed : goal.decreases-read_enclosed
decreases-read_enclosed l = 8 * l.more + 5

abbrev pub decreases-read_nested : goal.decreases-read_nested
decreases-read_nested l = 8 * l.more + 6

abbrev pub invariant-push_body-loop : goal.invariant-push_body-loop
invariant-push_body-loop l =
    (with_front (map op_of l.out.items)
    (read_some is_end (one_op l.scopes l.locals (inner_of l.scopes l.locals l.more) l.labels)
    (length l.tokens - l.counter) l.rest)
    ≡ with_front (map op_of l.initial.out.items) (read_body l.scopes l.locals l.more l.labels l.tokens))
    × (l.labels ≡ l.initial.labels)
