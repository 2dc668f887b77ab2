use Rattle.std.proofs.Common.{◌≡◌, ◌*◌, ◌∙◌, ap, sym, arith, length, take}
use Rattle.std.specs.Mem.Slots.{slots_items, slots_counts}
use Rattle.linear_memory.specs.Memory.{page_bytes}
use Rattle.linear_memory.proofs.ZeroLemmas.{front_count, read_parts, whole_size}
use Rattle.linear_memory.proofs.memory.LinearMemory.read_range.Goals as goal

pub returns : goal.returns
returns c =
    let m = c.self.inside in
    let front = take m.front (slots_items m.block) in
    let count = front_count (slots_items m.block) m.front (omega (arith, (slots_counts m.block).0)) in
    let size : length c.args.self.now.bytes ≡ m.pages * page_bytes =
    sym (ap (λ v. length v.bytes) c.self.view_is)
    ∙ whole_size front m.front (m.pages * page_bytes) m.cap count (omega arith)
    in
    let long : length c.front-bytes.result.now ≡ m.front = ap length c.front-bytes.ensures ∙ sym count in
    rw (← c.self.view_is, c.front-bytes.ensures)
    (read_parts front m.front (m.pages * page_bytes) m.cap c.args.address c.args.count
    c.min-start.result c.min-end.result count (omega arith) (omega (arith, size)) (omega (arith, long))
    (omega (arith, long)))
