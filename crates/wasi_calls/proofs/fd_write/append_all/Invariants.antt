use Rattle.std.proofs.Common.{◌≡◌, ◌+◌, ◌*◌, ◌-◌, ◌≤◌, length, true}
use Rattle.oci_config.specs.Limits.{max_output}
use Rattle.wasi_calls.specs.SystemCalls.{buffers_at, are_inside, gathered}
use Rattle.wasi_calls.proofs.BufferLemmas.{with_bytes}
use Rattle.wasi_calls.proofs.fd_write.append_all.Given as goal

abbrev pub invariant-loop-i : goal.invariant-loop-i
invariant-loop-i l =
    (length l.stream ≤ max_output) × (are_inside l.memory (buffers_at l.memory (l.address + l.i * 8) (l.n - l.i))
    ≡ true)
    × (with_bytes l.stream (gathered l.memory (buffers_at l.memory (l.address + l.i * 8) (l.n - l.i)))
    ≡ with_bytes l.fn.stream (gathered l.memory (buffers_at l.memory l.address l.n)))
