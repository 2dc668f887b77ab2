use Rattle.std.proofs.Common.{arith, ◌≡◌, ◌+◌, ◌*◌, ◌-◌, ◌∙◌, ap, sym, ℕ, length, take, length-append, length-take}
use Rattle.linear_memory.specs.Memory.{is_inside, range}
use Rattle.oci_config.specs.Limits.{max_output}
use Rattle.wasi_calls.specs.SystemCalls.{buffer_at, buffers_at, are_inside, gathered}
use Rattle.wasi_calls.proofs.BufferLemmas.{inside_both, gathers, with_bytes, appended_twice}
use Rattle.wasi_calls.proofs.fd_write.append_all.Goals as goal

pub append-requires : goal.append-requires
append-requires c =
    let m = c.args.memory.now in
    let this = λ (k : ℕ). buffer_at m (c.args.address + k * 8) in
    let address : c.buffer_at-buffer.result.address ≡ (this c.loop-i.i).address = c.buffer_at-buffer.ensures.address
    ∙ ap (λ k. (this k).address) c.from.ensures in
    let size : c.buffer_at-buffer.result.size ≡ (this c.loop-i.i).size = c.buffer_at-buffer.ensures.size
    ∙ ap (λ k. (this k).size) c.from.ensures in
    let both = inside_both m c.args.address c.args.n c.loop-i.i c.loop-i-test.true c.loop-i.invariant.1 in
    ap (λ a. is_inside m a c.buffer_at-buffer.result.size) address
    ∙ (ap (λ k. is_inside m (this c.loop-i.i).address k) size ∙ both.0)

pub loop-i-init : goal.loop-i-init
loop-i-init c =
    let m = c.args.memory.now in
    let first : c.args.address + 0 ≡ c.args.address = omega arith in
    let all : c.args.n - 0 ≡ c.args.n = omega arith in
    let same : buffers_at m (c.args.address + 0) (c.args.n - 0) ≡ buffers_at m c.args.address c.args.n =
    ap (λ a. buffers_at m a (c.args.n - 0)) first ∙ ap (λ k. buffers_at m c.args.address k) all in (
      c.requires.within,
      ap (are_inside m) same
          ∙ c.requires.buffers,
      ap (λ bs. with_bytes c.args.stream.now (gathered m bs)) same,
    )

pub loop-i-preserved : goal.loop-i-preserved
loop-i-preserved c =
    let m = c.args.memory.now in
    let i = c.loop-i.i in
    let s = c.loop-i.stream in
    let this = λ (k : ℕ). buffer_at m (c.args.address + k * 8) in
    let address : c.buffer_at-buffer.result.address ≡ (this i).address = c.buffer_at-buffer.ensures.address
    ∙ ap (λ k. (this k).address) c.from.ensures in
    let size : c.buffer_at-buffer.result.size ≡ (this i).size = c.buffer_at-buffer.ensures.size
    ∙ ap (λ k. (this k).size) c.from.ensures in
    let both = inside_both m c.args.address c.args.n i c.loop-i-test.true c.loop-i.invariant.1 in
    let bytes = range m (this i).address (this i).size in
    let rest = gathered m (buffers_at m (c.args.address + (i + 1) * 8) (c.args.n - (i + 1))) in
    let now : c.append.new.stream ≡ with_bytes s bytes =
    c.append.ensures ∙ (ap (λ a. with_bytes s (range m a c.buffer_at-buffer.result.size)) address
    ∙ ap (λ k. with_bytes s (range m (this i).address k)) size) in
    let e1 = length-append s (take (max_output - length s) bytes) in
    let e2 = length-take (max_output - length s) bytes in
    let short = c.loop-i.invariant.0 in
    let count = ap length now in
    let split = gathers m c.args.address c.args.n i c.loop-i-test.true in (
      omega arith,
      both.1,
      ap (λ u. with_bytes u rest) now ∙ (appended_twice s bytes rest ∙ (ap (with_bytes s) (sym split)
          ∙ c.loop-i.invariant.2)),
    )
