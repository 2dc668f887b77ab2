use Rattle.std.proofs.Common.{arith, drop, ◌+◌, length, ◌≡◌, ap}
use Rattle.linear_memory.specs.Memory.{with_range}
use Rattle.wasi_calls.specs.SystemCalls.{ended_text, text_bytes}
use Rattle.wasi_calls.proofs.RangeLemmas.{next_item, next_written}
use Rattle.std.proofs.Common.{length-append, [], ◌∷◌}
use Rattle.wasi_calls.proofs.texts.put_text_bytes.Goals as goal

pub loop-text-preserved : goal.loop-text-preserved
loop-text-preserved c =
    let texts = c.args.texts.now in
    let text = c.text-item.result in
    let rest = drop (c.loop-text.text-index + 1) texts in
    let step = next_item text_bytes texts c.loop-text.text-index text c.loop-text-test.true c.text-item.is in
    let all = length-append text (0 ∷ []) in
    let size : length c.as_str.result.now ≡ length text = ap length c.as_str.ensures in
    next_written c.args.memory.now c.loop-text.memory c.put_text.new.memory
    (with_range c.args.memory.now c.args.address (text_bytes texts)) c.loop-text.at
    (c.loop-text.at + (length c.as_str.result.now + 1)) (ended_text text) (text_bytes rest) (text_bytes
    (drop c.loop-text.text-index texts)) step
    c.loop-text.invariant.0 c.loop-text.invariant.1 c.loop-text.invariant.2 c.put_text.ensures (omega arith)
