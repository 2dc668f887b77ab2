use Rattle.std.proofs.Common.{◌-◌, length, Ok, refl}
use Rattle.std.proofs.lemmas.Result.{err_from_is_err_and}
use Rattle.text_assembler.specs.Reading.{read_parts}
use Rattle.text_assembler.specs.Tokens.{is_empty, read_token, tokens_of}
use Rattle.text_assembler.proofs.PartLoops.{starts, goes_on, fails, is_done, runs_out, empty_is, nonempty_is, fails_all}
use Rattle.text_assembler.proofs.lexer.tokens_of.Goals as goal

pub loop-init : goal.loop-init
loop-init c = rw c.new-out.ensures.items (starts is_empty read_token c.args.bytes.now)

pub returns-then-is_empty : goal.returns-then-is_empty
unfolding tokens_of
returns-then-is_empty c =
    rw (is_done is_empty read_token c.loop.out.items (length c.args.bytes.now - c.loop.counter) c.loop.rest.now
    (read_parts is_empty read_token c.args.bytes.now) (empty_is c.loop.rest.now c.if-is_empty.ensures)
    c.loop.invariant) refl

pub returns-in_err-rest : goal.returns-in_err-rest
unfolding tokens_of
returns-in_err-rest c =
    let p = err_from_is_err_and c.from_residual.result c.from_residual.ensures.1 in
    rw (p.1, p.2)
    (fails_all c.in_err-rest.field-0.0 (read_parts is_empty read_token c.args.bytes.now) (λ tokens. Ok tokens.0)
    (fails is_empty read_token c.in_err-rest.field-0.0 c.loop.out.items (length c.args.bytes.now) c.loop.counter
    c.loop.rest.now (read_parts is_empty read_token c.args.bytes.now) c.loop-test.true
    (nonempty_is c.loop.rest.now c.if-is_empty.ensures) c.in_err-rest.ensures c.loop.invariant))

pub loop-preserved : goal.loop-preserved
loop-preserved c =
    goes_on is_empty read_token c.loop.out.items (length c.args.bytes.now) c.loop.counter c.loop.rest.now
    c.push_token.new.out.items c.in_ok-rest.rest.now (read_parts is_empty read_token c.args.bytes.now)
    c.loop-test.true (nonempty_is c.loop.rest.now c.if-is_empty.ensures) c.in_ok-rest.ensures c.loop.invariant

pub returns-then-is_empty-2 : goal.returns-then-is_empty-2
unfolding tokens_of
returns-then-is_empty-2 c =
    rw (is_done is_empty read_token c.loop.out.items (length c.args.bytes.now - c.loop.counter) c.loop.rest.now
    (read_parts is_empty read_token c.args.bytes.now) (empty_is c.loop.rest.now c.if-is_empty-2.ensures)
    c.loop.invariant) refl

pub returns-else-is_empty-2 : goal.returns-else-is_empty-2
unfolding tokens_of
returns-else-is_empty-2 c =
    rw (runs_out is_empty read_token c.loop.out.items (length c.args.bytes.now) c.loop.counter c.loop.rest.now
    (read_parts is_empty read_token c.args.bytes.now) c.loop-test.false
    (nonempty_is c.loop.rest.now c.if-is_empty-2.ensures) c.loop.invariant) refl
