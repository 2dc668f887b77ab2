use Rattle.std.proofs.Common.{◌-◌, map, length, refl, sym, ap, ◌∙◌, arith}
use Rattle.std.proofs.lemmas.Result.{err_from_is_err_and}
use Rattle.wasm_ast.specs.View.{op_of}
use Rattle.text_assembler.specs.Inside.Answers.{with_front}
use Rattle.text_assembler.specs.Names.{Ids}
use Rattle.text_assembler.specs.Instructions.{is_end, one_op, read_body}
use Rattle.text_assembler.specs.Inside.Bodies.{inner_of}
use Rattle.text_assembler.proofs.PartLoops.{starts_after, goes_on, fails, is_done, runs_out}
use Rattle.text_assembler.proofs.OpenBlocks.{body_is, block_deep, block_read}
use Rattle.text_assembler.proofs.blocks.+read.Goals as goal

pub push_body-loop-init : goal.push_body-loop-init
push_body-loop-init t c = (
  starts_after is_end
      (one_op c.args.scopes.now c.args.locals.now (inner_of c.args.scopes.now c.args.locals.now c.args.more)
      c.args.labels.now) (map op_of c.args.out.now.items) c.args.tokens.now
      ∙ ap (with_front (map op_of c.args.out.now.items))
      (sym (body_is c.args.scopes.now c.args.locals.now c.args.more c.args.labels.now c.args.tokens.now)),
  refl,
)

pub push_body-returns-then-is_end-clause-value : goal.push_body-returns-then-is_end-clause-value
push_body-returns-then-is_end-clause-value t c =
    is_done is_end
    (one_op c.args.scopes.now c.args.locals.now (inner_of c.args.scopes.now c.args.locals.now c.args.more)
    c.loop.labels) (map op_of c.loop.out.items) (length c.args.tokens.now - c.loop.counter) c.loop.rest.now
    (with_front (map op_of c.args.out.now.items)
    (read_body c.args.scopes.now c.args.locals.now c.args.more c.args.labels.now c.args.tokens.now))
    (sym c.is_end.ensures ∙ c.if-is_end.true)
    (c.loop.invariant.0
    ∙ ap
    (λ (labels : Ids). with_front (map op_of c.args.out.now.items)
    (read_body c.args.scopes.now c.args.locals.now c.args.more labels c.args.tokens.now))
    c.loop.invariant.1)

pub push_body-returns-in_err-rest-clause-value : goal.push_body-returns-in_err-rest-clause-value
push_body-returns-in_err-rest-clause-value t c =
    let p = err_from_is_err_and c.from_residual.result c.from_residual.ensures.1 in
    rw (p.1, p.2)
    (fails is_end
    (one_op c.args.scopes.now c.args.locals.now (inner_of c.args.scopes.now c.args.locals.now c.args.more)
    c.loop.labels) c.in_err-rest.field-0.0 (map op_of c.loop.out.items) (length c.args.tokens.now)
    c.loop.counter c.loop.rest.now
    (with_front (map op_of c.args.out.now.items)
    (read_body c.args.scopes.now c.args.locals.now c.args.more c.args.labels.now c.args.tokens.now))
    c.loop-test.true
    (sym c.is_end.ensures ∙ c.if-is_end.false) c.in_err-rest.ensures.value
    (c.loop.invariant.0
    ∙ ap
    (λ (labels : Ids). with_front (map op_of c.args.out.now.items)
    (read_body c.args.scopes.now c.args.locals.now c.args.more labels c.args.tokens.now))
    c.loop.invariant.1))

pub push_body-loop-preserved : goal.push_body-loop-preserved
push_body-loop-preserved t c =
    rw c.in_ok-rest.ensures.kept (
      goes_on is_end
          (one_op c.args.scopes.now c.args.locals.now (inner_of c.args.scopes.now c.args.locals.now c.args.more)
          c.loop.labels) (map op_of c.loop.out.items) (length c.args.tokens.now) c.loop.counter c.loop.rest.now
          (map op_of c.push_instr.new.out.items) c.in_ok-rest.rest.now
          (with_front (map op_of c.args.out.now.items)
          (read_body c.args.scopes.now c.args.locals.now c.args.more c.loop.labels c.args.tokens.now))
          c.loop-test.true
          (sym c.is_end.ensures ∙ c.if-is_end.false) c.in_ok-rest.ensures.value c.loop.invariant.0,
      c.loop.invariant.1,
    )

pub push_body-returns-then-is_end-2-clause-value : goal.push_body-returns-then-is_end-2-clause-value
push_body-returns-then-is_end-2-clause-value t c =
    is_done is_end
    (one_op c.args.scopes.now c.args.locals.now (inner_of c.args.scopes.now c.args.locals.now c.args.more)
    c.loop.labels) (map op_of c.loop.out.items) (length c.args.tokens.now - c.loop.counter) c.loop.rest.now
    (with_front (map op_of c.args.out.now.items)
    (read_body c.args.scopes.now c.args.locals.now c.args.more c.args.labels.now c.args.tokens.now))
    (sym c.is_end-2.ensures ∙ c.if-is_end-2.true)
    (c.loop.invariant.0
    ∙ ap
    (λ (labels : Ids). with_front (map op_of c.args.out.now.items)
    (read_body c.args.scopes.now c.args.locals.now c.args.more labels c.args.tokens.now))
    c.loop.invariant.1)

pub push_body-returns-else-is_end-2-clause-value : goal.push_body-returns-else-is_end-2-clause-value
push_body-returns-else-is_end-2-clause-value t c =
    rw c.fault.ensures
    (runs_out is_end
    (one_op c.args.scopes.now c.args.locals.now (inner_of c.args.scopes.now c.args.locals.now c.args.more)
    c.loop.labels) (map op_of c.loop.out.items) (length c.args.tokens.now) c.loop.counter c.loop.rest.now
    (with_front (map op_of c.args.out.now.items)
    (read_body c.args.scopes.now c.args.locals.now c.args.more c.args.labels.now c.args.tokens.now))
    c.loop-test.false
    (sym c.is_end-2.ensures ∙ c.if-is_end-2.false)
    (c.loop.invariant.0
    ∙ ap
    (λ (labels : Ids). with_front (map op_of c.args.out.now.items)
    (read_body c.args.scopes.now c.args.locals.now c.args.more labels c.args.tokens.now))
    c.loop.invariant.1))

pub read_instr-returns-then-more-eq0-clause-value : goal.read_instr-returns-then-more-eq0-clause-value
read_instr-returns-then-more-eq0-clause-value t c =
    block_deep c.args.scopes.now c.args.locals.now c.args.more c.args.labels.now c.args.tokens.now c.in_ok-word.word.now
    c.in_ok-word.rest.now c.in_ok-word.ensures
    (sym c.opens_block.ensures ∙ c.if-opens_block.true) (omega arith)

pub read_instr-returns-then-opens_block-clause-value : goal.read_instr-returns-then-opens_block-clause-value
read_instr-returns-then-opens_block-clause-value t c =
    rw (block_read c.args.scopes.now c.args.locals.now c.args.more c.args.labels.now c.args.tokens.now
    c.in_ok-word.word.now c.in_ok-word.rest.now c.in_ok-word.ensures
    (sym c.opens_block.ensures ∙ c.if-opens_block.true) (omega arith)) c.read_nested.ensures.value
