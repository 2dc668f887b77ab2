use Rattle.std.proofs.Common.{◌≡◌, arith, rules}
use Rattle.linear_memory.specs.Memory.{little_endian, range}
use Rattle.wasi_calls.proofs.BufferLemmas.{both_words}
use Rattle.wasi_calls.proofs.fd_write.buffer_at.Goals as goal

number : (c : goal.In-Some) → c.in-Some.number ≡ little_endian (range c.args.memory.now c.args.address 8)
number c = search rules

pub returns-clause-address : goal.returns-clause-address
returns-clause-address c =
    let both =
    both_words c.args.memory.now c.args.address c.in-Some.number c.ranged.ensures c.requires.inside (number c) in
    omega (arith, both.0, both.1)

pub returns-clause-size : goal.returns-clause-size
returns-clause-size c =
    let both =
    both_words c.args.memory.now c.args.address c.in-Some.number c.ranged.ensures c.requires.inside (number c) in
    omega (arith, both.0, both.1)
