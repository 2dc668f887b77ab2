use Rattle.std.proofs.Common.{◌≡◌, ◌+◌, ◌*◌, ◌∙◌, ◌++◌, ap, sym, arith, length, take, drop}
use Rattle.std.specs.Mem.Slots.{slots_items, slots_counts}
use Rattle.linear_memory.specs.Memory.{byte_count, low_bytes, page_bytes}
use Rattle.linear_memory.proofs.OwnerLemmas.{start_kept, owner_kept}
use Rattle.linear_memory.proofs.ZeroLemmas.{low_count, front_count, stored_near, whole_size}
use Rattle.std.proofs.lemmas.Bool.Decides.{nat_tests}
use Rattle.linear_memory.proofs.memory.LinearMemory.store_near.Goals as goal

pub invariant_of-self : goal.invariant_of-self
invariant_of-self c =
    let m = c.self.inside in
    let near = c.store_word.ensures.places in (
      c.store_word.ensures.written m.front c.self.invariant.0,
      omega arith,
      omega arith,
      omega arith,
      omega (arith, near.count),
      start_kept _ _ m.start near c.self.invariant.5,
      owner_kept m.deed _ _ m.alloc near c.self.invariant.6,
    )

pub returns-clause-stored : goal.returns-clause-stored
returns-clause-stored c = λ _.
    let m = c.self.inside in
    let k = byte_count c.args.width in
    let ws = low_bytes k c.args.number in
    let count = low_count k c.args.number in
    let front = front_count (slots_items m.block) m.front (omega (arith, (slots_counts m.block).0)) in
    let xs = slots_items m.block in
    let now :
    slots_items c.store_word.new.row ≡ take c.args.address xs ++ (ws ++ drop (c.args.address + length ws) xs) =
    c.store_word.ensures.bytes
    ∙ ap (λ n. take c.args.address xs ++ (ws ++ drop (c.args.address + n) xs)) (sym count) in
    let size : length c.args.self.now.bytes ≡ m.pages * page_bytes =
    sym (ap (λ v. length v.bytes) c.self.view_is)
    ∙ whole_size (take m.front (slots_items m.block)) m.front (m.pages * page_bytes) m.cap front (omega arith) in (
      grind (arith, nat_tests),
      rw (← c.self.view_is)
          (stored_near xs (slots_items c.store_word.new.row) ws m.front (m.pages * page_bytes) m.cap c.args.address
          (omega (arith, (slots_counts m.block).0)) now (omega arith) (omega (arith, count))),
    )
