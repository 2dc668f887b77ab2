use Rattle.std.proofs.Common.{◌≡◌, ◌*◌, ◌++◌, replicate}
use Rattle.wasi_calls.proofs.fd_write.append_zeros.Given as goal

abbrev pub invariant-loop : goal.invariant-loop
invariant-loop l = l.stream ≡ l.fn.stream ++ replicate (l.counter * 64) 0
