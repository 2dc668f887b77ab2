use Rattle.std.proofs.Common.{true}
use Rattle.std.proofs.lemmas.Result.{err_from_is_err_and}
use Rattle.wasm_binary.specs.Inside.Reading.{read_size, read_items}
use Rattle.wasm_binary.proofs.ItemLoop.{goes_on, ends, is_done}
use Rattle.wasm_binary.proofs.sections.read_sizes.Goals as goal

pub returns-in_err-item : goal.returns-in_err-item
returns-in_err-item c =
    let p = err_from_is_err_and c.from_residual.result c.from_residual.ensures.1 in
    rw (p.1, p.2)
    (ends (read_size c.args.is_table true) c.in_err-item.field-0.0 c.loop.items.items c.args.count c.loop.counter
    c.loop.rest.now (read_items (read_size c.args.is_table true) c.args.count c.args.bytes.now) c.loop-test.true
    c.in_err-item.ensures c.loop.invariant)

pub loop-preserved : goal.loop-preserved
loop-preserved c =
    rw c.in_ok-push.ensures.items
    (goes_on (read_size c.args.is_table true) c.loop.items.items c.args.count c.loop.counter c.loop.rest.now
    c.in_ok-item.item c.in_ok-item.next.now
    (read_items (read_size c.args.is_table true) c.args.count c.args.bytes.now) c.loop-test.true
    c.in_ok-item.ensures c.loop.invariant)

pub returns : goal.returns
returns c =
    is_done (read_size c.args.is_table true) c.loop.items.items c.args.count c.loop.counter c.loop.rest.now
    (read_items (read_size c.args.is_table true) c.args.count c.args.bytes.now) c.loop-test.false c.loop.invariant
