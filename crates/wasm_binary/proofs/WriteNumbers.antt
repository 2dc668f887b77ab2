-- The bytes of a canonical number, one after the other.
use Rattle.std.proofs.Common.{◌≡◌, ℕ, zero, suc, ◌+◌, ◌-◌, ◌*◌, ◌/◌, ◌%◌, ◌^◌, ◌<◌, ◌≤◌, Bool, true, false, ltb, leb, cond, List, [], ◌∷◌, ◌++◌, ◌∙◌, append_assoc, refl, sym, ap, inl, inr, arith}
use Rattle.std.proofs.Math.Pow.{pow_mono}
use Rattle.std.proofs.lemmas.Bool.{cases_lt, le-ltb, ltb-true, ltb-false, leb-true, leb-false}
use Rattle.wasm_binary.specs.Canonical.{canon_unsigned, canon_signed, last_signed, is_last_signed}
use Rattle.wasm_binary.proofs.Powers.{seven}

pub unsigned_more :
    (more n : ℕ) → 0 < more → 128 ≤ n → canon_unsigned more n ≡ (128 + n % 128) ∷ canon_unsigned (more - 1) (n / 128)
unfolding canon_unsigned
unsigned_more zero n h l = absurd (omega arith)
unsigned_more (suc more) n h l = let k : suc more - 1 ≡ more = omega arith in rw (le-ltb n 128 l, k) refl

pub signed_more :
    (more bits n : ℕ) → 0 < more → is_last_signed bits n ≡ false
    → canon_signed more bits n ≡ (128 + n % 128) ∷ canon_signed (more - 1) (bits - 7) (n / 128)
unfolding canon_signed
signed_more zero bits n h l = absurd (omega arith)
signed_more (suc more) bits n h l = let k : suc more - 1 ≡ more = omega arith in rw (l, k) refl

pub signed_last : (more bits n : ℕ) → is_last_signed bits n ≡ true → canon_signed more bits n ≡ last_signed bits n ∷ []
unfolding canon_signed
signed_last zero bits n l = refl
signed_last (suc more) bits n l = rw l refl

pub signed_end : (more bits n : ℕ) → more ≡ 0 → canon_signed more bits n ≡ last_signed bits n ∷ []
unfolding canon_signed
signed_end zero bits n e = refl
signed_end (suc more) bits n e = absurd (omega arith)

-- when the last byte holds the number
abbrev pub Holds : (n all : ℕ) → Type 0
Holds n all = (2 * n < all → n < 128) × (all ≤ 2 * n → all ≤ n + 128)

last_case : (n all : ℕ) (b : Bool) → ltb (2 * n) all ≡ b → cond b (ltb n 64) (leb all (n + 64)) ≡ true → Holds n all
last_case n all true e h =
    let k = ltb-true n 64 h in let g = ltb-true (2 * n) all e in (λ _. omega arith, λ l. absurd (omega arith))
last_case n all false e h =
    let k = leb-true all (n + 64) h in let g = ltb-false (2 * n) all e in (λ l. absurd (omega arith), λ _. omega arith)

pub last_by_test : (bits n : ℕ) → is_last_signed bits n ≡ true → Holds n (2 ^ bits)
last_by_test bits n h = last_case n (2 ^ bits) (ltb (2 * n) (2 ^ bits)) refl h

pub last_by_bits : (bits n : ℕ) → n < 2 ^ bits → bits ≤ 7 → Holds n (2 ^ bits)
last_by_bits bits n lt h = let k : 2 ^ bits ≤ 2 ^ 7 = pow_mono h in (λ _. omega arith, λ _. omega arith)

not_case :
    (n all : ℕ) (b : Bool) → ltb (2 * n) all ≡ b → n < all → cond b (ltb n 64) (leb all (n + 64)) ≡ false → 128 < all
not_case n all true e lt h = let k = ltb-false n 64 h in let g = ltb-true (2 * n) all e in omega arith
not_case n all false e lt h = let k = leb-false all (n + 64) h in let g = ltb-false (2 * n) all e in omega arith

pub not_last : (bits n : ℕ) → n < 2 ^ bits → is_last_signed bits n ≡ false → 128 < 2 ^ bits
not_last bits n lt h = not_case n (2 ^ bits) (ltb (2 * n) (2 ^ bits)) refl lt h

pub bits_left : (bits : ℕ) → 128 < 2 ^ bits → 7 < bits
bits_left bits h = elim (cases_lt 7 bits) [
  | inl lt ↦ lt
  | inr le ↦ let k : 2 ^ bits ≤ 2 ^ 7 = pow_mono le in absurd (omega arith)
]

pub high_bits : (bits n : ℕ) → 7 < bits → n < 2 ^ bits → n / 128 < 2 ^ (bits - 7)
high_bits bits n h lt = omega (arith, seven bits (omega arith))

-- one more byte at the end, and what follows it
pub pushed :
    (old new : List ℕ) (b : ℕ) (others whole : List ℕ) → new ≡ old ++ b ∷ [] → whole ≡ b ∷ others
    → new ++ others ≡ old ++ whole
pushed old new b others whole e f =
    ap (λ (xs : List ℕ). xs ++ others) e ∙ append_assoc old (b ∷ []) others ∙ ap (λ (xs : List ℕ). old ++ xs) (sym f)
