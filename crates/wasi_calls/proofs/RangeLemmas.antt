-- Ranges of memory that are written one after the other.
use Rattle.std.proofs.Common.{◌≡◌, ℕ, ◌+◌, ◌<◌, ◌≤◌, List, [], ◌∷◌, ◌++◌, length, take, drop, sym, ap, ◌∙◌, arith, append_assoc, length-append, length-drop, length-take, add-zero, true, if◌then◌else◌, slice_index_or}
use Rattle.std.proofs.lemmas.List.{length-take-le, drop-drop, at_drop_more, take-append-drop}
use Rattle.std.proofs.Math.Seq.{take-append_seam, drop-append-add, take-append-add}
use Rattle.std.proofs.lemmas.Bool.Decides.{nat_tests}
use Rattle.linear_memory.specs.Memory.{Memory, is_inside, with_range, written_at}

pub within : (m : Memory) (a n : ℕ) → is_inside m a n ≡ true → a + n ≤ length m.bytes
within m a n h = grind (arith, nat_tests)

pub inside_of : (m : Memory) (a n : ℕ) → a + n ≤ length m.bytes → is_inside m a n ≡ true
inside_of m a n h = grind (arith, nat_tests)

pub same_length : (m : Memory) (a : ℕ) (xs : List ℕ) → a + length xs ≤ length m.bytes
    → length (with_range m a xs).bytes ≡ length m.bytes
same_length m a xs h =
    let e1 = length-append (take a m.bytes) (xs ++ drop (a + length xs) m.bytes) in
    let e2 = length-append xs (drop (a + length xs) m.bytes) in
    let e3 = length-take a m.bytes in
    let e4 = length-drop (a + length xs) m.bytes in
    omega arith

-- what is written after a front
front : (t xs d : List ℕ) (n : ℕ) → n ≡ length t → take (n + length xs) (t ++ (xs ++ d)) ≡ t ++ xs
front t xs d n e = ap (λ k. take (k + length xs) (t ++ (xs ++ d))) e ∙ (take-append-add t (xs ++ d) (length xs)
    ∙ ap (λ u. t ++ u) (take-append_seam xs d))

back : (t xs d : List ℕ) (n k : ℕ) → n ≡ length t → drop (n + length xs + k) (t ++ (xs ++ d)) ≡ drop k d
back t xs d n k e =
    let sum : n + length xs + k ≡ length t + (length xs + k) = omega arith in
    ap (λ j. drop j (t ++ (xs ++ d))) sum ∙ (drop-append-add t (xs ++ d) (length xs + k) ∙ drop-append-add xs d k)

-- bytes that are written after others
pub one_after_other : (m : Memory) (a : ℕ) (xs ys : List ℕ) → a + length xs ≤ length m.bytes
    → with_range (with_range m a xs) (a + length xs) ys ≡ with_range m a (xs ++ ys)
one_after_other m a xs ys h =
    let t = take a m.bytes in
    let d = drop (a + length xs) m.bytes in
    let e : a ≡ length t = sym (length-take-le a m.bytes (omega arith)) in
    let sum : a + length xs + length ys ≡ a + length (xs ++ ys) = omega (arith, length-append xs ys) in
    let rest : drop (length ys) d
    ≡ drop (a + length (xs ++ ys)) m.bytes = drop-drop (length ys) (a + length xs) m.bytes
    ∙ ap (λ n. drop n m.bytes) sum in
    let parts : (t ++ xs) ++ (ys ++ drop (length ys) d) ≡ t ++ ((xs ++ ys) ++ drop (length ys) d) = simp append_assoc in
    ap (λ bytes. record m { bytes = bytes })
    (ap (λ u. u ++ (ys ++ drop (a + length xs + length ys) (t ++ (xs ++ d)))) (front t xs d a e)
    ∙ (ap (λ u. (t ++ xs) ++ (ys ++ u)) (back t xs d a (length ys) e)
    ∙ (parts ∙ ap (λ u. t ++ ((xs ++ ys) ++ u)) rest)))

-- nothing is written
pub nothing_written : (m : Memory) (a : ℕ) → with_range m a [] ≡ m
nothing_written m a = ap (λ bytes. record m {
  bytes =
      bytes;
}) (ap (λ n. take a m.bytes ++ drop n m.bytes) (add-zero a) ∙ take-append-drop a m.bytes)

pub written_inside : (m : Memory) (a : ℕ) (xs : List ℕ) → a + length xs ≤ length m.bytes
    → written_at m a xs ≡ with_range m a xs
written_inside m a xs h = ap (λ b. if b then with_range m a xs else m) (inside_of m a (length xs) h)

-- of bytes that are written from an address on, the first are written and the others are left
pub next_written : (m0 m m' whole : Memory) (a n : ℕ) (xs ys now : List ℕ) → now ≡ xs ++ ys
    → length m.bytes ≡ length m0.bytes → a + length now ≤ length m.bytes
    → with_range m a now ≡ whole → m' ≡ with_range m a xs → n ≡ a + length xs
    → (length m'.bytes ≡ length m0.bytes) × (n + length ys ≤ length m'.bytes) × (with_range m' n ys ≡ whole)
next_written m0 m m' whole a n xs ys now e sizes inside is_whole e' en =
    let all = length-append xs ys in
    let count : length now ≡ length (xs ++ ys) = ap length e in
    let same : length m'.bytes ≡ length m.bytes = ap (λ (x : Memory). length x.bytes) e'
    ∙ same_length m a xs (omega arith) in
    let left : with_range m' n ys
    ≡ with_range (with_range m a xs) (a + length xs) ys = ap (λ (x : Memory). with_range x n ys) e'
    ∙ ap (λ k. with_range (with_range m a xs) k ys) en in (
      same ∙ sizes,
      omega arith,
      left ∙ (one_after_other m a xs ys (omega arith)
          ∙ (ap (λ u. with_range m a u) (sym e) ∙ is_whole)),
    )

pub next_item : {X Y : Type 0} (F : List X → Y) (xs : List X) (i : ℕ) (x : X) → i < length xs
    → x ≡ slice_index_or xs i x → F (drop i xs) ≡ F (x ∷ drop (i + 1) xs)
next_item F xs i x h e = at_drop_more F xs i x h ∙ ap (λ y. F (y ∷ drop (i + 1) xs)) (sym e)
