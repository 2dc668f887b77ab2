use Rattle.std.proofs.Common.{◌*◌, arith}
use Rattle.std.specs.Mem.Slots.{slots_items, slots_counts}
use Rattle.linear_memory.specs.Memory.{page_bytes}
use Rattle.linear_memory.proofs.ZeroLemmas.{loaded_near}
use Rattle.linear_memory.proofs.memory.LinearMemory.load_near.Goals as goal

pub returns-clause-number : goal.returns-clause-number
returns-clause-number c =
    let m = c.self.inside in
    rw (← c.self.view_is)
    (loaded_near (slots_items m.block) m.front (m.pages * page_bytes) m.cap c.args.address c.args.width
    c.load_word.result (omega (arith, (slots_counts m.block).0)) (omega arith) (omega arith)
    c.load_word.ensures.number)
