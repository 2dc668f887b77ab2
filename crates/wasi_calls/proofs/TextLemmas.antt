-- Texts in memory, and pointers to them.
use Rattle.std.proofs.Common.{◌≡◌, ℕ, ◌+◌, ◌*◌, ◌≤◌, List, [], ◌∷◌, ◌++◌, length, refl, ap, ◌∙◌, arith, length-append, Bool, true, false, nat_le, ◌&&◌, if◌then◌else◌}
use Rattle.std.specs.List.{flat_map}
use Rattle.linear_memory.specs.Memory.{Memory, is_inside, with_range, written_at}
use Rattle.wasi_calls.specs.SystemCalls.{HostState, HostDone, returns, fault, success, ended_text, text_bytes, pointers, word, texts_get}
use Rattle.wasi_calls.proofs.RangeLemmas.{inside_of, same_length, one_after_other, written_inside}

-- a text, and then a NUL
pub ended : (m m1 m2 : Memory) (a : ℕ) (text bytes : List ℕ) → a + length (ended_text text) ≤ length m.bytes
    → bytes ≡ text → m1 ≡ written_at m a bytes
    → m2 ≡ written_at m1 (a + length bytes) (0 ∷ []) → m2 ≡ with_range m a (ended_text text)
ended m m1 m2 a text bytes h e e1 e2 =
    let all = length-append text (0 ∷ []) in
    let size : length bytes ≡ length text = ap length e in
    let first : m1 ≡ with_range m a bytes = e1 ∙ written_inside m a bytes (omega arith) in
    let sizes : length m1.bytes ≡ length m.bytes = ap (λ (x : Memory). length x.bytes) first
    ∙ same_length m a bytes (omega arith) in
    let second : m2 ≡ with_range m1 (a + length bytes) (0 ∷ []) = e2
    ∙ written_inside m1 (a + length bytes) (0 ∷ []) (omega arith) in
    let both : with_range (with_range m a bytes) (a + length bytes) (0 ∷ [])
    ≡ with_range m a (bytes ++ 0 ∷ []) = one_after_other m a bytes (0 ∷ []) (omega arith) in
    second ∙ (ap (λ (x : Memory). with_range x (a + length bytes) (0 ∷ [])) first ∙ (both
    ∙ ap (λ u. with_range m a (u ++ 0 ∷ [])) e))

pub pointers_length : (q : ℕ) (texts : List (List ℕ)) → length (flat_map word (pointers q texts)) ≡ length texts * 4
pointers_length q [] = refl
pointers_length q (t ∷ ts) =
    let rest = pointers_length (q + length (ended_text t)) ts in
    let all = length-append (word q) (flat_map word (pointers (q + length (ended_text t)) ts)) in
    omega arith

module _ (texts : List (List ℕ)) (p q : ℕ) (m : Memory) (out err : List ℕ) where
  abbrev before : HostState
  before = record { memory = m; out = out; err = err }

  abbrev after : HostState
  after = record before { memory = with_range (with_range m p (flat_map word (pointers q texts))) q (text_bytes texts) }

  got : (a b : Bool) → HostDone
  got a b = if a && b then returns success after else returns fault before

  pub texts_done : p + length texts * 4 ≤ length m.bytes → q + length (text_bytes texts) ≤ length m.bytes
      → texts_get texts p q before ≡ returns success after
  unfolding got
  texts_done h k =
      let e = pointers_length q texts in
      let a = inside_of m p (length (flat_map word (pointers q texts))) (omega arith) in
      let b = inside_of m q (length (text_bytes texts)) k in
      ap (λ x. got x (is_inside m q (length (text_bytes texts)))) a ∙ ap (λ x. got true x) b

  pub texts_refused : (nat_le (p + length texts * 4) (length m.bytes) && nat_le (q + length (text_bytes texts))
      (length m.bytes)) ≡ false
      → texts_get texts p q before ≡ returns fault before
  texts_refused h =
      let e : nat_le (p + length (flat_map word (pointers q texts))) (length m.bytes)
      ≡ nat_le (p + length texts * 4) (length m.bytes) =
      ap (λ n. nat_le (p + n) (length m.bytes)) (pointers_length q texts) in
      let both : (is_inside m p (length (flat_map word (pointers q texts))) && is_inside m q (length
      (text_bytes texts))) ≡ false =
      ap (λ x. x && nat_le (q + length (text_bytes texts)) (length m.bytes)) e ∙ h in
      ap (λ x. if x then returns success after else returns fault before) both
