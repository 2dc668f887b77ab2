use Rattle.wasi_calls.proofs.dispatch.host.Goals as goal

pub returns-in-Some-clause-done : goal.returns-in-Some-clause-done
returns-in-Some-clause-done c = rw c.in-Some.is c.host_with.ensures.done
