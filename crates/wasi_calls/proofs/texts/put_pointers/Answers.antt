use Rattle.std.proofs.Common.{arith, drop, ◌+◌, length, ◌≡◌, ◌++◌, ap, ◌∙◌, sym, [], ◌∷◌, length-append}
use Rattle.std.proofs.lemmas.List.{at_drop_all}
use Rattle.std.specs.List.{flat_map}
use Rattle.linear_memory.specs.Memory.{with_range}
use Rattle.wasi_calls.specs.SystemCalls.{ended_text, text_bytes, pointers, word}
use Rattle.wasi_calls.proofs.RangeLemmas.{next_item, next_written, written_inside, nothing_written}
use Rattle.wasi_calls.proofs.TextLemmas.{pointers_length}
use Rattle.wasi_calls.proofs.texts.put_pointers.Goals as goal

pub loop-text-preserved : goal.loop-text-preserved
loop-text-preserved c =
    let texts = c.args.texts.now in
    let text = c.text-item.result in
    let i = c.loop-text.text-index in
    let rest = drop (i + 1) texts in
    let pointer = c.loop-text.pointer in
    let m = c.loop-text.memory in
    let at = c.loop-text.at in
    let now = flat_map word (pointers pointer (drop i texts)) in
    let later = c.loop-text.pointer + (length c.as_str.result.now + 1) in
    let all = length-append text (0 ∷ []) in
    let size : length c.as_str.result.now ≡ length text = ap length c.as_str.ensures in
    let left : length (drop i texts)
    ≡ length (text ∷ rest) = next_item length texts i text c.loop-text-test.true c.text-item.is in
    let bytes : length (text_bytes (drop i texts))
    ≡ length (text_bytes (text ∷ rest)) =
    next_item (λ ts. length (text_bytes ts)) texts i text c.loop-text-test.true c.text-item.is in
    let both = length-append (ended_text text) (text_bytes rest) in
    let count = pointers_length pointer (drop i texts) in
    let same_later : later ≡ pointer + length (ended_text text) = omega arith in
    let step : now ≡ word pointer ++ flat_map word (pointers later rest) =
    next_item (λ ts. flat_map word (pointers pointer ts)) texts i text c.loop-text-test.true c.text-item.is
    ∙ ap (λ k. word pointer ++ flat_map word (pointers k rest)) (sym same_later) in
    let inv = c.loop-text.invariant in
    let written = c.store.ensures.written ∙ written_inside m at (word pointer) (omega arith) in
    let next = next_written c.args.memory.now m c.store.new.self (with_range c.args.memory.now c.args.address
    (flat_map word (pointers c.args.first texts))) at
    (at + 4) (word pointer) (flat_map word (pointers later rest)) now step inv.0 (omega arith) inv.3 written
    (omega arith) in
    let same = next.0 in
    (next.0, omega arith, omega arith, next.2)

pub returns : goal.returns
returns c =
    let m = c.loop-text.memory in
    let texts = c.args.texts.now in
    let none = at_drop_all (λ ts. with_range m c.loop-text.at (flat_map word
    (pointers c.loop-text.pointer ts))) texts c.loop-text.text-index c.loop-text-test.false in
    sym (sym c.loop-text.invariant.3 ∙ (none ∙ nothing_written m c.loop-text.at))
