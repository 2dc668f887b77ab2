-- The lines of some bytes, by the place of their first line feed.
use Rattle.std.proofs.Common.{◌≡◌, ◌≤◌, ◌<◌, ◌-◌, ◌+◌, ◌==◌, ℕ, zero, suc, List, [], ◌∷◌, length, take, drop, ◌++◌, subst, slice_index, Bool, true, false, ap, refl, arith, add-one}
use Rattle.std.proofs.lemmas.List.{take_all, drop_all, length-drop}
use Rattle.std.proofs.lemmas.Bool.Decides.{nat_tests}
use Rattle.request_lines.specs.Input.{HasNoFeed}
use Rattle.request_lines.specs.Inside.Pieces.{TakesPiece}
use Rattle.request_lines.specs.Lines.{lines_of}

is_false : (b : Bool) → (b ≡ true → ⊥) → b ≡ false
is_false true h = absurd (h refl)
is_false false h = refl

lines_at : (xs : List ℕ) (i : ℕ) → i < length xs → ((k : ℕ) → k < i → (slice_index xs k == 10) ≡ false)
    → (slice_index xs i == 10) ≡ true → lines_of xs ≡ take i xs ∷ lines_of (drop (suc i) xs)
lines_at [] i l none here = absurd (omega arith)
lines_at (x ∷ xs) zero l none here = rw here refl
lines_at (x ∷ xs) (suc i) l none here =
    let first : (x == 10) ≡ false = none 0 (omega arith) in
    rw (first, lines_at xs i (omega arith) (λ k h. none (suc k) (omega arith)) here) refl

one_line : (x : ℕ) (xs : List ℕ) → ((k : ℕ) → k < length (x ∷ xs) → (slice_index (x ∷ xs) k == 10) ≡ false)
    → lines_of (x ∷ xs) ≡ (x ∷ xs) ∷ []
one_line x [] none = let first : (x == 10) ≡ false = none 0 (omega arith) in rw first refl
one_line x (y ∷ ys) none =
    let first : (x == 10) ≡ false = none 0 (omega arith) in
    rw (first, one_line y ys (λ k h. none (suc k) (omega arith))) refl

-- up to the first line feed
pub lines_from_feed :
    (xs : List ℕ) (i : ℕ) → i < length xs → ((k : ℕ) → 0 ≤ k → k < i → (slice_index xs k == 10) ≡ true → ⊥)
    → (slice_index xs i == 10) ≡ true
    → lines_of xs ≡ take i xs ∷ lines_of (take (length xs - (i + 1)) (drop (i + 1) xs))
lines_from_feed xs i l none here =
    let rest : take (length xs - (i + 1)) (drop (i + 1) xs) ≡ drop (i + 1) xs =
    take_all _ (drop (i + 1) xs) (omega (arith, length-drop (i + 1) xs)) in
    rw rest (rw add-one (lines_at xs i l (λ k h. is_false _ (none k (omega arith) h)) here))

-- where there is none
pub lines_from_none :
    (xs : List ℕ) → 0 < length xs → ((k : ℕ) → 0 ≤ k → k < length xs → (slice_index xs k == 10) ≡ true → ⊥)
    → lines_of xs ≡ xs ∷ lines_of (take (length xs - length xs) (drop (length xs) xs))
lines_from_none [] l none = absurd (omega arith)
lines_from_none (x ∷ xs) l none =
    let rest : take (length (x ∷ xs) - length (x ∷ xs)) (drop (length (x ∷ xs)) (x ∷ xs)) ≡ [] =
    rw (drop_all (length (x ∷ xs)) (x ∷ xs) (omega arith)) (take_all _ [] (omega arith)) in
    rw rest (one_line x xs (λ k h. is_false _ (none k (omega arith) h)))

differs : (b : ℕ) → ((b == 10) ≡ true → ⊥) → b ≡ 10 → ⊥
differs b h e = h (rw e refl)

no_feed : (xs : List ℕ) (i : ℕ) → ((k : ℕ) → k < i → k < length xs → (slice_index xs k == 10) ≡ true → ⊥)
    → HasNoFeed (take i xs)
no_feed [] zero none = tt
no_feed [] (suc i) none = tt
no_feed (x ∷ xs) zero none = tt
no_feed (x ∷ xs) (suc i) none =
    (differs x (none 0 (omega arith) (omega arith)), no_feed xs i (λ k h l. none (suc k) (omega arith) (omega arith)))

split_at :
    (xs : List ℕ) (i : ℕ) → i < length xs → (slice_index xs i == 10) ≡ true → xs ≡ take i xs ++ 10 ∷ drop (suc i) xs
split_at [] i l here = absurd (omega arith)
split_at (x ∷ xs) zero l here = let same : x ≡ 10 = grind (arith, nat_tests) in rw same refl
split_at (x ∷ xs) (suc i) l here = ap (λ r. x ∷ r) (split_at xs i (omega arith) here)

pub piece_to_feed :
    (xs : List ℕ) (i : ℕ) → i < length xs → ((k : ℕ) → 0 ≤ k → k < i → (slice_index xs k == 10) ≡ true → ⊥)
    → (slice_index xs i == 10) ≡ true → TakesPiece true xs (drop (i + 1) xs) (take i xs)
piece_to_feed xs i l none here =
    record { plain = no_feed xs i (λ k h m. none k (omega arith) h); split = rw add-one (split_at xs i l here) }

pub piece_to_end : (xs : List ℕ) → ((k : ℕ) → 0 ≤ k → k < length xs → (slice_index xs k == 10) ≡ true → ⊥)
    → TakesPiece false xs (drop (length xs) xs) xs
piece_to_end xs none = record {
  plain =
      subst HasNoFeed (take_all (length xs) xs (omega arith))
      (no_feed xs (length xs) (λ k h m. none k (omega arith) m));
  split = (refl, drop_all (length xs) xs (omega arith));
}
