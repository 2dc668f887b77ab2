use Rattle.wasi_calls.proofs.HostLemmas.{makes, held_of}
use Rattle.wasi_calls.proofs.laws.calls_are_made.Goals as goal

pub returns : goal.returns
returns c p args_bytes env_bytes h args s ranged typed =
    let m = makes p args s h args_bytes env_bytes typed ranged in
    let held = held_of h args s m.after m.made in
    (m.after, m.is, held.size, held.bytes)
