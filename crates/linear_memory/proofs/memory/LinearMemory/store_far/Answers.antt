use Rattle.std.proofs.Common.{◌≡◌, ◌+◌, ◌*◌, ◌∙◌, ◌++◌, ap, sym, arith, length, take, drop}
use Rattle.std.specs.Mem.Slots.{slots_items, slots_counts}
use Rattle.linear_memory.specs.Memory.{byte_count, low_bytes, page_bytes}
use Rattle.linear_memory.proofs.OwnerLemmas.{start_kept, owner_kept}
use Rattle.linear_memory.proofs.ZeroLemmas.{low_count, front_count, stored_far, whole_size}
use Rattle.linear_memory.proofs.memory.LinearMemory.store_far.Goals as goal

pub invariant_of-self : goal.invariant_of-self
invariant_of-self c =
    let m = c.self.inside in
    let far = c.extend-self-inside.ensures.places in
    let near = c.store_word.ensures.places in
    let front = front_count (slots_items m.block) m.front (omega (arith, (slots_counts m.block).0)) in
    let size : length c.args.self.now.bytes ≡ m.pages * page_bytes =
    sym (ap (λ v. length v.bytes) c.self.view_is)
    ∙ whole_size (take m.front (slots_items m.block)) m.front (m.pages * page_bytes) m.cap front (omega arith) in (
      c.store_word.ensures.written c.extend-self-inside.result c.extend-self-inside.ensures.written,
      omega (arith, size),
      omega arith,
      omega arith,
      omega (arith, far.count, near.count),
      start_kept _ _ m.start near (start_kept _ _ m.start far c.self.invariant.5),
      owner_kept m.deed _ _ m.alloc near (owner_kept m.deed _ _ m.alloc far c.self.invariant.6),
    )

pub returns-clause-written : goal.returns-clause-written
returns-clause-written c =
    let m = c.self.inside in
    let k = byte_count c.args.width in
    let ws = low_bytes k c.args.number in
    let count = low_count k c.args.number in
    let front = front_count (slots_items m.block) m.front (omega (arith, (slots_counts m.block).0)) in
    let ys = slots_items c.extend-self-inside.new.row in
    let now :
    slots_items c.store_word.new.row ≡ take c.args.address ys ++ (ws ++ drop (c.args.address + length ws) ys) =
    c.store_word.ensures.bytes
    ∙ ap (λ n. take c.args.address ys ++ (ws ++ drop (c.args.address + n) ys)) (sym count) in
    let size : length c.args.self.now.bytes ≡ m.pages * page_bytes =
    sym (ap (λ v. length v.bytes) c.self.view_is)
    ∙ whole_size (take m.front (slots_items m.block)) m.front (m.pages * page_bytes) m.cap front (omega arith) in
    rw (← c.self.view_is)
    (stored_far (slots_items m.block) ys (slots_items c.store_word.new.row) ws m.front c.extend-self-inside.result
    (m.pages * page_bytes) m.cap c.args.address (omega (arith, (slots_counts m.block).0))
    (omega (arith, (slots_counts c.extend-self-inside.new.row).0, c.extend-self-inside.ensures.written.0)) now
    c.extend-self-inside.ensures.zeros (omega arith) (omega (arith, size)) (omega (arith, count)))
