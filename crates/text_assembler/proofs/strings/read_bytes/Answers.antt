use Rattle.std.proofs.Common.{◌-◌, length, sym, ◌∙◌}
use Rattle.std.proofs.lemmas.Result.{err_from_is_err_and}
use Rattle.text_assembler.specs.Characters.{quote}
use Rattle.text_assembler.specs.Reading.{read_parts}
use Rattle.text_assembler.specs.Tokens.{begins_with, read_element}
use Rattle.text_assembler.proofs.PartLoops.{starts, goes_on, fails, is_done, runs_out}
use Rattle.text_assembler.proofs.strings.read_bytes.Goals as goal

pub loop-init : goal.loop-init
loop-init c = rw c.new-out.ensures.items (starts (begins_with quote) read_element c.args.bytes.now)

pub returns-then-begins_with : goal.returns-then-begins_with
returns-then-begins_with c =
    is_done (begins_with quote) read_element c.loop.out.items (length c.args.bytes.now - c.loop.counter) c.loop.rest.now
    (read_parts (begins_with quote) read_element c.args.bytes.now)
    (sym c.begins_with.ensures ∙ c.if-begins_with.true) c.loop.invariant

pub returns-in_err-rest : goal.returns-in_err-rest
returns-in_err-rest c =
    let p = err_from_is_err_and c.from_residual.result c.from_residual.ensures.1 in
    rw (p.1, p.2)
    (fails (begins_with quote) read_element c.in_err-rest.field-0.0 c.loop.out.items (length c.args.bytes.now)
    c.loop.counter c.loop.rest.now (read_parts (begins_with quote) read_element c.args.bytes.now)
    c.loop-test.true (sym c.begins_with.ensures ∙ c.if-begins_with.false) c.in_err-rest.ensures
    c.loop.invariant)

pub loop-preserved : goal.loop-preserved
loop-preserved c =
    goes_on (begins_with quote) read_element c.loop.out.items (length c.args.bytes.now) c.loop.counter c.loop.rest.now
    c.push_element.new.out.items c.in_ok-rest.rest.now
    (read_parts (begins_with quote) read_element c.args.bytes.now) c.loop-test.true
    (sym c.begins_with.ensures ∙ c.if-begins_with.false) c.in_ok-rest.ensures c.loop.invariant

pub returns-then-begins_with-2 : goal.returns-then-begins_with-2
returns-then-begins_with-2 c =
    is_done (begins_with quote) read_element c.loop.out.items (length c.args.bytes.now - c.loop.counter) c.loop.rest.now
    (read_parts (begins_with quote) read_element c.args.bytes.now)
    (sym c.begins_with-2.ensures ∙ c.if-begins_with-2.true) c.loop.invariant

pub returns : goal.returns
returns c =
    runs_out (begins_with quote) read_element c.loop.out.items (length c.args.bytes.now) c.loop.counter c.loop.rest.now
    (read_parts (begins_with quote) read_element c.args.bytes.now) c.loop-test.false
    (sym c.begins_with-2.ensures ∙ c.if-begins_with-2.false) c.loop.invariant
