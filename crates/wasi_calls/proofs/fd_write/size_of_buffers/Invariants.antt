use Rattle.std.proofs.Common.{◌≡◌, ◌+◌, ◌*◌, ◌-◌, ◌≤◌, ◌^◌, length}
use Rattle.wasi_calls.specs.SystemCalls.{buffers_at, are_inside, gathered}
use Rattle.wasi_calls.proofs.fd_write.size_of_buffers.Given as goal

abbrev pub invariant-loop-i : goal.invariant-loop-i
invariant-loop-i l =
    (l.sum ≤ l.i * 2 ^ 32)
    × (are_inside l.memory (buffers_at l.memory (l.address + l.i * 8) (l.n - l.i))
    ≡ are_inside l.memory (buffers_at l.memory l.address l.n))
    × (l.sum + length (gathered l.memory (buffers_at l.memory (l.address + l.i * 8) (l.n - l.i)))
    ≡ length (gathered l.memory (buffers_at l.memory l.address l.n)))
