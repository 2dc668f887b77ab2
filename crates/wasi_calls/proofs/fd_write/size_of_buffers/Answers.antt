use Rattle.std.proofs.Common.{arith, ◌≡◌, ◌+◌, ◌*◌, ◌∙◌, ap, sym, true}
use Rattle.linear_memory.specs.Memory.{is_inside}
use Rattle.wasi_calls.specs.SystemCalls.{buffer_at}
use Rattle.wasi_calls.proofs.BufferLemmas.{rest_inside, gathered_length}
use Rattle.wasi_calls.proofs.fd_write.size_of_buffers.Goals as goal

pub loop-i-preserved : goal.loop-i-preserved
loop-i-preserved c =
    let m = c.args.memory.now in
    let p = c.args.address in
    let n = c.args.n in
    let i = c.loop-i.i in
    let this = buffer_at m (p + i * 8) in
    let address : c.buffer_at-buffer.result.address ≡ this.address = c.buffer_at-buffer.ensures.address
    ∙ ap (λ k. (buffer_at m (p + k * 8)).address) c.from.ensures in
    let size : c.buffer_at-buffer.result.size ≡ this.size = c.buffer_at-buffer.ensures.size
    ∙ ap (λ k. (buffer_at m (p + k * 8)).size) c.from.ensures in
    let is_result : is_inside m c.buffer_at-buffer.result.address c.buffer_at-buffer.result.size ≡ true = cc in
    let is_in : is_inside m this.address this.size ≡ true =
    ap (λ a. is_inside m a this.size) (sym address)
    ∙ (ap (λ k. is_inside m c.buffer_at-buffer.result.address k) (sym size) ∙ is_result) in
    let all = rest_inside m p n i c.loop-i-test.true is_in in
    let within = c.buffer_at-buffer.ensures.within in
    let sizes = gathered_length m p n i c.loop-i-test.true is_in in
    (omega arith, all ∙ c.loop-i.invariant.1, omega (arith, c.loop-i.invariant.2))
