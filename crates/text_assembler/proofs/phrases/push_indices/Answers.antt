use Rattle.std.proofs.Common.{◌-◌, length, sym, ◌∙◌}
use Rattle.std.proofs.lemmas.Result.{err_from_is_err_and}
use Rattle.text_assembler.specs.Reading.{read_parts}
use Rattle.text_assembler.specs.Inside.Answers.{with_front}
use Rattle.text_assembler.specs.Phrases.{is_past_indices, one_index, read_indices}
use Rattle.text_assembler.proofs.PartLoops.{starts_after, goes_on, fails, is_done, runs_out}
use Rattle.text_assembler.proofs.phrases.push_indices.Goals as goal

pub loop-init : goal.loop-init
loop-init g c =
    starts_after is_past_indices (one_index (g.S.Space.entries c.args.space.now)) c.args.out.now.items c.args.tokens.now

pub returns-then-is_past_indices : goal.returns-then-is_past_indices
unfolding read_indices
returns-then-is_past_indices g c =
    is_done is_past_indices (one_index (g.S.Space.entries c.args.space.now)) c.loop.out.items
    (length c.args.tokens.now - c.loop.counter) c.loop.rest.now
    (with_front c.args.out.now.items
    (read_parts is_past_indices (one_index (g.S.Space.entries c.args.space.now)) c.args.tokens.now))
    (sym c.is_past_indices.ensures ∙ c.if-is_past_indices.true) c.loop.invariant

pub returns-in_err-rest : goal.returns-in_err-rest
unfolding read_indices
returns-in_err-rest g c =
    let p = err_from_is_err_and c.from_residual.result c.from_residual.ensures.1 in
    rw (p.1, p.2)
    (fails is_past_indices (one_index (g.S.Space.entries c.args.space.now)) c.in_err-rest.field-0.0 c.loop.out.items
    (length c.args.tokens.now) c.loop.counter c.loop.rest.now
    (with_front c.args.out.now.items
    (read_parts is_past_indices (one_index (g.S.Space.entries c.args.space.now)) c.args.tokens.now))
    c.loop-test.true
    (sym c.is_past_indices.ensures ∙ c.if-is_past_indices.false) c.in_err-rest.ensures c.loop.invariant)

pub loop-preserved : goal.loop-preserved
loop-preserved g c =
    goes_on is_past_indices (one_index (g.S.Space.entries c.args.space.now)) c.loop.out.items (length c.args.tokens.now)
    c.loop.counter c.loop.rest.now c.push_index.new.out.items c.in_ok-rest.rest.now
    (with_front c.args.out.now.items
    (read_parts is_past_indices (one_index (g.S.Space.entries c.args.space.now)) c.args.tokens.now))
    c.loop-test.true
    (sym c.is_past_indices.ensures ∙ c.if-is_past_indices.false) c.in_ok-rest.ensures c.loop.invariant

pub returns-then-is_past_indices-2 : goal.returns-then-is_past_indices-2
unfolding read_indices
returns-then-is_past_indices-2 g c =
    is_done is_past_indices (one_index (g.S.Space.entries c.args.space.now)) c.loop.out.items
    (length c.args.tokens.now - c.loop.counter) c.loop.rest.now
    (with_front c.args.out.now.items
    (read_parts is_past_indices (one_index (g.S.Space.entries c.args.space.now)) c.args.tokens.now))
    (sym c.is_past_indices-2.ensures ∙ c.if-is_past_indices-2.true) c.loop.invariant

pub returns-else-is_past_indices-2 : goal.returns-else-is_past_indices-2
unfolding read_indices
returns-else-is_past_indices-2 g c =
    rw c.fault.ensures
    (runs_out is_past_indices (one_index (g.S.Space.entries c.args.space.now)) c.loop.out.items
    (length c.args.tokens.now) c.loop.counter c.loop.rest.now
    (with_front c.args.out.now.items
    (read_parts is_past_indices (one_index (g.S.Space.entries c.args.space.now)) c.args.tokens.now))
    c.loop-test.false (sym c.is_past_indices-2.ensures ∙ c.if-is_past_indices-2.false) c.loop.invariant)
