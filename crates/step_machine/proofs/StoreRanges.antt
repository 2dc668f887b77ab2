-- The numbers of a store stay in range: bytes below 256, and pages within 32 bits (4.2.8).
use Rattle.std.proofs.Common.{◌≡◌, ℕ, zero, suc, ◌+◌, ◌*◌, ◌/◌, ◌≤◌, List, ◌++◌, take, drop, length, length-append, Bool, true, false, cond, Some, None, refl, ap, arith}
use Rattle.std.specs.Prelude.{replicate, slice_set}
use Rattle.std.proofs.lemmas.Bool.Decides.{nat_tests}
use Rattle.std.proofs.lemmas.List.{length-take, length-drop, length-replicate}
use Rattle.std.proofs.lemmas.List.Elements.{All-append, All-replicate, All-set}
use Rattle.wasm_ast.specs.declared.values.Value.{Value}
use Rattle.wasm_ast.specs.Ranged.{RangedValue}
use Rattle.linear_memory.specs.Memory.{Memory, is_inside, with_range, low_bytes, pages_of, page_bytes, can_grow, grown, grow_result}
use Rattle.step_machine.specs.Configuration.{Store}
use Rattle.step_machine.specs.Effects.{grow_answer}
use Rattle.step_machine.specs.Inside.Simulates.{RangedStore}
use Rattle.step_machine.proofs.IntegerRanges.{IsByte, low_are_bytes, written_bytes}

length_low : (k n : ℕ) → length (low_bytes k n) ≡ k
length_low zero n = refl
length_low (suc k) n = ap suc (length_low k (n / 256))

pub same_length :
    (m : Memory) (a : ℕ) (bs : List ℕ) → a + length bs ≤ length m.bytes
    → length (with_range m a bs).bytes ≡ length m.bytes
same_length m a bs h =
    let first = length-append (take a m.bytes) (bs ++ drop (a + length bs) m.bytes) in
    let second = length-append bs (drop (a + length bs) m.bytes) in
    let before = length-take a m.bytes in
    let after = length-drop (a + length bs) m.bytes in
    omega (arith, first, second, before, after, h)

module _ (r : Store) (ranged : RangedStore r) where
  pub written_ranged :
      (a k n : ℕ) → is_inside r.memory a k ≡ true
      → RangedStore (record r { memory = with_range r.memory a (low_bytes k n) })
  written_ranged a k n h =
      let k_bytes = length_low k n in
      let inside : a + k ≤ length r.memory.bytes = grind (arith, nat_tests) in
      let same = same_length r.memory a (low_bytes k n) (omega (arith, k_bytes, inside)) in
      record {
        globals = ranged.globals;
        bytes = written_bytes r.memory a (low_bytes k n) ranged.bytes (low_are_bytes k n);
        pages = let few = ranged.pages in omega (arith, same, few);
        cap = ranged.cap;
      }

  pub grown_ranged : (n : ℕ) → RangedStore (record r { memory = grown r.memory n })
  grown_ranged n = by_test (can_grow r.memory n) refl
    where
      by_test :
          (b : Bool) → can_grow r.memory n ≡ b
          → RangedStore
          (record r {
            memory = cond b
                (record r.memory { bytes = r.memory.bytes ++ replicate (n * page_bytes) 0 }) r.memory;
          })
      by_test true e =
          let fits : pages_of r.memory + n ≤ r.memory.cap = grind (arith, nat_tests) in
          let cap = ranged.cap in
          let both = length-append r.memory.bytes (replicate (n * page_bytes) 0) in
          let zeros = length-replicate {A = ℕ} (n * page_bytes) 0 in
          record {
            globals = ranged.globals;
            bytes =
                All-append IsByte r.memory.bytes (replicate (n * page_bytes) 0) ranged.bytes
                (All-replicate IsByte (n * page_bytes) 0 (omega arith));
            pages = omega (arith, fits, cap, both, zeros);
            cap = ranged.cap;
          }
      by_test false e = ranged

  pub answer_ranged : (n : ℕ) → RangedValue (grow_answer (grow_result r.memory n))
  answer_ranged n = by_test (can_grow r.memory n)
    where
      by_test : (b : Bool) → RangedValue (grow_answer (cond b (Some (pages_of r.memory)) None))
      by_test true = ranged.pages
      by_test false = omega arith

  pub set_ranged : (k : ℕ) (v : Value) → RangedValue v → RangedStore (record r { globals = slice_set r.globals k v })
  set_ranged k v h = record {
    globals = All-set RangedValue r.globals k v h ranged.globals;
    bytes = ranged.bytes;
    pages = ranged.pages;
    cap = ranged.cap;
  }
