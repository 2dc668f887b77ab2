use Rattle.std.proofs.Common.{refl}
use Rattle.wasi_calls.specs.SystemCalls.{state_of}
use Rattle.wasi_calls.proofs.dispatch.fd_write.Goals as goal

pub returns-in-1-clause-done : goal.returns-in-1-clause-done
returns-in-1-clause-done c =
    let s = state_of c.args.memory.now c.args.process.now in
    rw c.in-1.is (c.write_stream.ensures (λ out. record s { out = out }) refl)

pub returns-in-2-clause-done : goal.returns-in-2-clause-done
returns-in-2-clause-done c =
    let s = state_of c.args.memory.now c.args.process.now in
    rw c.in-2.is (c.write_stream-in-2.ensures (λ err. record s { err = err }) refl)
