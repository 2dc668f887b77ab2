use Rattle.std.proofs.Common.{◌-◌, length, sym, ◌∙◌}
use Rattle.std.proofs.lemmas.Result.{err_from_is_err_and}
use Rattle.text_assembler.specs.Reading.{read_parts}
use Rattle.text_assembler.specs.Inside.Answers.{with_front}
use Rattle.text_assembler.specs.Phrases.{is_close, one_type}
use Rattle.text_assembler.proofs.PartLoops.{starts_after, goes_on, fails, is_done, runs_out}
use Rattle.text_assembler.proofs.phrases.push_types.Goals as goal

pub loop-init : goal.loop-init
loop-init c = starts_after is_close one_type c.args.out.now.items c.args.tokens.now

pub returns-then-is_close : goal.returns-then-is_close
returns-then-is_close c =
    is_done is_close one_type c.loop.out.items (length c.args.tokens.now - c.loop.counter) c.loop.rest.now
    (with_front c.args.out.now.items (read_parts is_close one_type c.args.tokens.now))
    (sym c.is_close.ensures ∙ c.if-is_close.true) c.loop.invariant

pub returns-in_err-rest : goal.returns-in_err-rest
returns-in_err-rest c =
    let p = err_from_is_err_and c.from_residual.result c.from_residual.ensures.1 in
    rw (p.1, p.2)
    (fails is_close one_type c.in_err-rest.field-0.0 c.loop.out.items (length c.args.tokens.now) c.loop.counter
    c.loop.rest.now (with_front c.args.out.now.items (read_parts is_close one_type c.args.tokens.now))
    c.loop-test.true
    (sym c.is_close.ensures ∙ c.if-is_close.false) c.in_err-rest.ensures c.loop.invariant)

pub loop-preserved : goal.loop-preserved
loop-preserved c =
    goes_on is_close one_type c.loop.out.items (length c.args.tokens.now) c.loop.counter c.loop.rest.now
    c.push_type.new.out.items c.in_ok-rest.rest.now
    (with_front c.args.out.now.items (read_parts is_close one_type c.args.tokens.now)) c.loop-test.true
    (sym c.is_close.ensures ∙ c.if-is_close.false) c.in_ok-rest.ensures c.loop.invariant

pub returns-then-is_close-2 : goal.returns-then-is_close-2
returns-then-is_close-2 c =
    is_done is_close one_type c.loop.out.items (length c.args.tokens.now - c.loop.counter) c.loop.rest.now
    (with_front c.args.out.now.items (read_parts is_close one_type c.args.tokens.now))
    (sym c.is_close-2.ensures ∙ c.if-is_close-2.true) c.loop.invariant

pub returns-else-is_close-2 : goal.returns-else-is_close-2
returns-else-is_close-2 c =
    rw c.fault.ensures
    (runs_out is_close one_type c.loop.out.items (length c.args.tokens.now) c.loop.counter c.loop.rest.now
    (with_front c.args.out.now.items (read_parts is_close one_type c.args.tokens.now)) c.loop-test.false
    (sym c.is_close-2.ensures ∙ c.if-is_close-2.false) c.loop.invariant)
