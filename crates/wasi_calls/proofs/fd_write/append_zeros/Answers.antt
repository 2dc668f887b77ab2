use Rattle.std.proofs.Common.{◌≡◌, ◌≤◌, ◌*◌, ◌+◌, ◌%◌, ◌∙◌, ◌++◌, length, ap, sym, refl, arith, replicate, take}
use Rattle.std.proofs.lemmas.List.{append-nil, take-replicate}
use Rattle.oci_config.specs.Limits.{max_output}
use Rattle.wasi_calls.proofs.BufferLemmas.{with_bytes, zeros_appended, zeros_taken}
use Rattle.wasi_calls.proofs.fd_write.append_zeros.Goals as goal

pub loop-init : goal.loop-init
loop-init c = sym (append-nil c.args.stream.now)

pub loop-preserved : goal.loop-preserved
loop-preserved c =
    let s = c.args.stream.now in
    let i = c.loop.counter in
    let room : length s + i * 64 + 64 ≤ max_output = omega arith in
    let next : i * 64 + 64 ≡ (i + 1) * 64 = omega arith in
    c.append.ensures ∙ (ap (λ u. with_bytes u (replicate 64 0)) c.loop.invariant
    ∙ (zeros_appended s (replicate 64 0) (i * 64) 64 refl room ∙ ap (λ k. s ++ replicate k 0) next))

pub returns : goal.returns
returns c =
    let s = c.args.stream.now in
    let i = c.loop.counter in
    let taken = c.min-taken.result in
    let rest = taken % 64 in
    let room : length s + i * 64 + rest ≤ max_output = omega arith in
    let all : i * 64 + rest ≡ taken = omega arith in
    let few = take-replicate rest 64 0 (omega arith) in
    c.append-2.ensures ∙ (ap (λ u. with_bytes u (take rest (replicate 64 0))) c.loop.invariant
    ∙ (zeros_appended s (take rest (replicate 64 0)) (i * 64) rest few room ∙ (ap (λ k. s ++ replicate k 0) all
    ∙ zeros_taken s taken c.args.count (omega arith))))
