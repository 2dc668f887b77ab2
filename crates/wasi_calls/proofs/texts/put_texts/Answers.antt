use Rattle.std.proofs.Common.{arith, ◌≡◌, ◌+◌, ◌*◌, ◌≤◌, length, ap, ◌∙◌}
use Rattle.std.specs.List.{flat_map}
use Rattle.std.proofs.lemmas.Bool.Decides.{nat_tests}
use Rattle.linear_memory.specs.Memory.{Memory}
use Rattle.wasi_calls.specs.SystemCalls.{text_bytes, pointers, word}
use Rattle.wasi_calls.proofs.RangeLemmas.{same_length}
use Rattle.wasi_calls.proofs.TextLemmas.{pointers_length, texts_done, texts_refused}
use Rattle.wasi_calls.proofs.texts.put_texts.Goals as goal
use Rattle.wasi_calls.proofs.texts.put_texts.Goals.{then-not-are_pointers_inside-via-then-not-are_pointers_inside, then-not-are_pointers_inside-via-else-not-are_pointers_inside+then-not-are_inside}

pub returns-then-not-are_pointers_inside : goal.returns-then-not-are_pointers_inside
returns-then-not-are_pointers_inside c out err =
    texts_refused c.args.texts.now c.args.p c.args.q c.args.memory.now out err
    (elim c.then-not-are_pointers_inside.branch [
      | then-not-are_pointers_inside-via-then-not-are_pointers_inside w ↦
          grind (arith, nat_tests)
      | then-not-are_pointers_inside-via-else-not-are_pointers_inside+then-not-are_inside w ↦ grind
          (arith, nat_tests)
    ])

pub put_text_bytes-requires-clause-small : goal.put_text_bytes-requires-clause-small
put_text_bytes-requires-clause-small c =
    let e = pointers_length c.from-q.result c.args.texts.now in
    let h : c.from-p.result + length (flat_map word
    (pointers c.from-q.result c.args.texts.now)) ≤ length c.args.memory.now.bytes = grind (arith, nat_tests) in
    let same = same_length c.args.memory.now c.from-p.result (flat_map word
    (pointers c.from-q.result c.args.texts.now)) h in
    let size : length c.put_pointers.new.memory.bytes
    ≡ length c.args.memory.now.bytes = ap (λ (m : Memory). length m.bytes) c.put_pointers.ensures ∙ same in
    omega (arith, c.byte_count-size.ensures.within)

pub returns : goal.returns
returns c out err =
    let h : c.args.p + length c.args.texts.now * 4 ≤ length c.args.memory.now.bytes = grind (arith, nat_tests) in
    let k : c.args.q + length (text_bytes c.args.texts.now) ≤ length c.args.memory.now.bytes =
    grind (arith, nat_tests) in
    let done = texts_done c.args.texts.now c.args.p c.args.q c.args.memory.now out err h k in
    cc
