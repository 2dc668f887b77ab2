use Rattle.std.proofs.Common.{◌≡◌, ◌++◌, ◌∷◌, ◌-◌, [], map, length, sym, ◌∙◌, arith, rules}
use Rattle.std.proofs.lemmas.Result.{err_from_is_err_and}
use Rattle.std.proofs.lemmas.List.{map_push}
use Rattle.wasm_ast.specs.View.{op_of}
use Rattle.wasm_binary.specs.Inside.Reading.{inner_of, read_ops, read_body}
use Rattle.wasm_binary.proofs.ItemLoop.{begins}
use Rattle.wasm_binary.proofs.ReadLoops.{op_goes_on, op_fails, ops_end, ops_run_out, body_is, block_over, block_read}
use Rattle.wasm_binary.proofs.CommonLemmas.{of_what_is_there, where_nothing_is}
use Rattle.wasm_binary.proofs.instructions.+read.Goals as goal
use Rattle.wasm_binary.proofs.instructions.+read.Goals.{read_body-in-Some, read_body-in_default+in_ok-instr+in_ok-push}

pub read_body-loop-init : goal.read_body-loop-init
read_body-loop-init t c =
    let k : length c.args.bytes.now - 0 ≡ length c.args.bytes.now = omega arith in
    let none : c.if-not-is_end.items.items ≡ [] = search rules in
    rw (none, k)
    (begins (read_ops (inner_of c.args.more) (length c.args.bytes.now) c.args.bytes.now)
    ∙ sym (body_is c.args.more c.args.bytes.now))

pub read_body-returns-then-is_end : goal.read_body-returns-then-is_end
read_body-returns-then-is_end t c =
    ops_end (inner_of c.args.more) (map op_of c.loop.items.items) (length c.args.bytes.now) c.loop.counter
    c.loop.rest.now (read_body c.args.more c.args.bytes.now) c.loop-test.true
    (sym c.is_end-in-loop.ensures ∙ c.if-is_end.true) c.loop.invariant

pub read_body-returns-in_err-instr : goal.read_body-returns-in_err-instr
read_body-returns-in_err-instr t c =
    let p = err_from_is_err_and c.from_residual-in_err-instr.result c.from_residual-in_err-instr.ensures.1 in
    rw (p.1, p.2)
    (op_fails (inner_of c.args.more) c.in_err-instr.field-0.0 (map op_of c.loop.items.items)
    (length c.args.bytes.now) c.loop.counter c.loop.rest.now (read_body c.args.more c.args.bytes.now)
    c.loop-test.true (sym c.is_end-in-loop.ensures ∙ c.if-is_end.false) c.in_err-instr.ensures c.loop.invariant)

pub read_body-loop-preserved : goal.read_body-loop-preserved
read_body-loop-preserved t c =
    elim c.match-branch-3.branch [
      | read_body-in-Some w ↦
          let p = of_what_is_there c.in_ok-next.field-0 w.in-Some.next _ w.in-Some.is c.in_ok-next.ensures.some in
          rw (w.items-is, w.rest-is, p.1)
          (op_goes_on (inner_of c.args.more) (map op_of c.loop.items.items) (length c.args.bytes.now) c.loop.counter
          c.loop.rest.now p.0 w.in-Some.next.now (read_body c.args.more c.args.bytes.now)
          c.loop-test.true (sym c.is_end-in-loop.ensures ∙ c.if-is_end.false) (p.2 (inner_of c.args.more))
          c.loop.invariant)
      | read_body-in_default+in_ok-instr+in_ok-push w ↦
          let none : c.add_common.new.items.items ≡ c.loop.items.items =
          where_nothing_is c.in_ok-next.field-0 _ w.in_default.is c.in_ok-next.ensures.none in
          let e :
          map op_of w.push.new.self.items ≡ map op_of c.loop.items.items ++ op_of w.in_ok-instr.instr ∷ [] =
          rw (w.in_ok-push.ensures.items, none) (map_push op_of c.loop.items.items w.in_ok-instr.instr) in
          rw (w.items-is, w.rest-is, e)
          (op_goes_on (inner_of c.args.more) (map op_of c.loop.items.items) (length c.args.bytes.now) c.loop.counter
          c.loop.rest.now (op_of w.in_ok-instr.instr) w.in_ok-instr.next.now (read_body c.args.more c.args.bytes.now)
          c.loop-test.true (sym c.is_end-in-loop.ensures ∙ c.if-is_end.false) w.in_ok-instr.ensures c.loop.invariant)
    ]

pub read_body-returns : goal.read_body-returns
read_body-returns t c =
    ops_run_out (inner_of c.args.more) (map op_of c.loop.items.items) (length c.args.bytes.now) c.loop.counter
    c.loop.rest.now (read_body c.args.more c.args.bytes.now) c.loop-test.false c.loop.invariant

pub read_instr-returns-then-more-eq0 : goal.read_instr-returns-then-more-eq0
read_instr-returns-then-more-eq0 t c =
    block_over c.args.more c.args.bytes.now c.in_ok-opcode.opcode c.in_ok-opcode.rest.now c.in_ok-opcode.ensures.value
    (sym c.opens_block.ensures ∙ c.if-opens_block.true) (omega arith)

pub read_instr-returns-then-opens_block : goal.read_instr-returns-then-opens_block
read_instr-returns-then-opens_block t c =
    rw (block_read c.args.more c.args.bytes.now c.in_ok-opcode.opcode c.in_ok-opcode.rest.now
    c.in_ok-opcode.ensures.value (sym c.opens_block.ensures ∙ c.if-opens_block.true) (omega arith))
    c.read_nested.ensures
