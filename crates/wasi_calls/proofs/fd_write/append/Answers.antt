use Rattle.std.proofs.Common.{◌∙◌, ap, replicate}
use Rattle.linear_memory.specs.Memory.{read_at}
use Rattle.wasi_calls.proofs.BufferLemmas.{with_bytes, appended_twice, two_parts}
use Rattle.wasi_calls.proofs.fd_write.append.Goals as goal

pub returns : goal.returns
returns c =
    let m = c.args.memory.now in
    let a = c.args.buffer.now.address in
    let n = c.args.buffer.now.size in
    let s = c.args.stream.now in
    let written = c.in-Some.range.written.now in
    let zeros = c.in-Some.range.zeros in
    let read =
    c.in-Some.ensures ∙ (ap (λ k. read_at m k c.from-2.result) c.from.ensures ∙ ap (read_at m a) c.from-2.ensures)
    in
    c.append_zeros.ensures ∙ (ap (λ u. with_bytes u (replicate zeros 0)) c.append.ensures
    ∙ (appended_twice s written (replicate zeros 0)
    ∙ ap (with_bytes s) (two_parts m a n written zeros c.requires read)))
