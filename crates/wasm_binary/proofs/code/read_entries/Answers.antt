use Rattle.std.proofs.Common.{true, get_or, refl}
use Rattle.std.proofs.lemmas.Result.{err_from_is_err_and}
use Rattle.wasm_binary.specs.Inside.Reading.{read_entries}
use Rattle.wasm_binary.proofs.ReadLoops.{code_goes_on, code_fails, codes_done}
use Rattle.wasm_binary.proofs.code.read_entries.Goals as goal

pub returns-in_err-item : goal.returns-in_err-item
returns-in_err-item c =
    let p = err_from_is_err_and c.from_residual.result c.from_residual.ensures.1 in
    rw (p.1, p.2)
    (code_fails c.args.types.now c.in_err-item.field-0.0 c.loop-type_index.items.items c.args.indices.now
    c.loop-type_index.type_index-index (get_or c.args.indices.now c.loop-type_index.type_index-index 0)
    c.loop-type_index.rest.now (read_entries true c.args.types.now c.args.indices.now c.args.bytes.now)
    c.loop-type_index-test.true refl c.in_err-item.ensures c.loop-type_index.invariant)

pub loop-type_index-preserved : goal.loop-type_index-preserved
loop-type_index-preserved c =
    rw c.in_ok-push.ensures.items
    (code_goes_on c.args.types.now c.loop-type_index.items.items c.args.indices.now
    c.loop-type_index.type_index-index (get_or c.args.indices.now c.loop-type_index.type_index-index 0)
    c.loop-type_index.rest.now c.in_ok-item.item c.in_ok-item.next.now
    (read_entries true c.args.types.now c.args.indices.now c.args.bytes.now) c.loop-type_index-test.true refl
    c.in_ok-item.ensures c.loop-type_index.invariant)

pub returns : goal.returns
returns c =
    codes_done c.args.types.now c.loop-type_index.items.items c.args.indices.now c.loop-type_index.type_index-index
    c.loop-type_index.rest.now (read_entries true c.args.types.now c.args.indices.now c.args.bytes.now)
    c.loop-type_index-test.false c.loop-type_index.invariant
