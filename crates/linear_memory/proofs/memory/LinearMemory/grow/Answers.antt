use Rattle.std.proofs.Common.{arith, take}
use Rattle.std.specs.Mem.Slots.{slots_items, slots_counts}
use Rattle.linear_memory.proofs.ZeroLemmas.{front_count, grown_front}
use Rattle.linear_memory.proofs.memory.LinearMemory.grow.Goals as goal

pub returns-clause-grows : goal.returns-clause-grows
returns-clause-grows c =
    let m = c.self.inside in
    let count = front_count (slots_items m.block) m.front (omega (arith, (slots_counts m.block).0)) in
    rw (← c.self.view_is) (grown_front (take m.front (slots_items m.block)) m.front m.pages c.args.delta m.cap
    count (omega arith) (omega arith))
