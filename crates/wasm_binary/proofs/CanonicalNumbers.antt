-- The canonical encodings of numbers are encodings.
use Rattle.std.proofs.Common.{◌≡◌, ℕ, zero, suc, ◌+◌, ◌-◌, ◌*◌, ◌/◌, ◌%◌, ◌^◌, ◌<◌, ◌≤◌, Bool, true, false, cond, ltb, leb, List, [], ◌∷◌, ◌++◌, length, refl, arith, inl, inr}
use Rattle.std.specs.Prelude.{◌⊎◌}
use Rattle.std.proofs.Math.Pow.{pow_mono}
use Rattle.std.proofs.lemmas.Bool.{cases_lt, lt-ltb, le-ltb, ltb-true, ltb-false, leb-true}
use Rattle.wasm_binary.specs.Numbers as numbers
use Rattle.wasm_binary.specs.Numbers.{IsUnsigned, IsSigned}
use Rattle.wasm_binary.specs.Canonical.{canon_unsigned, last_signed, is_last_signed, canon_signed, canon_number}
use Rattle.wasm_binary.proofs.WriteNumbers.{bits_left, not_last, high_bits}

bits_left_from : (bits n : ℕ) → n < 2 ^ bits → 128 ≤ n → 7 < bits
bits_left_from bits n lt l = bits_left bits (omega arith)

unsigned_spells :
    (more bits n : ℕ) (rest : List ℕ) → n < 2 ^ bits → 0 < bits → bits ≤ 7 * more + 7
    → IsUnsigned bits (canon_unsigned more n ++ rest) n rest
unfolding canon_unsigned
unsigned_spells zero bits n rest lt pos few =
    let k : 2 ^ bits ≤ 2 ^ 7 = pow_mono {j = 7} (omega arith) in inl (omega arith, (lt, refl), refl)
unsigned_spells (suc more) bits n rest lt pos few = elim (cases_lt n 128) [
  | inl s ↦ rw (lt-ltb n 128 s) (inl (s, (lt, refl), refl))
  | inr l ↦
      let big : 7 < bits = bits_left_from bits n lt l in
      rw (le-ltb n 128 l)
      (inr (
        omega arith,
        omega arith,
        big,
        n / 128,
        unsigned_spells more (bits - 7) (n / 128) rest (high_bits bits n big lt) (omega arith) (omega arith),
        omega arith,
      ))
]

pub number_spells : (n : ℕ) (rest : List ℕ) → n < 2 ^ 32 → numbers.IsU32 (canon_number n ++ rest) n rest
number_spells n rest lt = unsigned_spells 9 32 n rest lt (omega arith) (omega arith)

pub unsigned_some : (more n : ℕ) → 0 < length (canon_unsigned more n)
unfolding canon_unsigned
unsigned_some zero n = omega arith
unsigned_some (suc more) n = elim (cases_lt n 128) [
  | inl s ↦ rw (lt-ltb n 128 s) (omega arith)
  | inr l ↦ rw (le-ltb n 128 l) (omega arith)
]

-- the last byte of a signed number
last_case :
    (n all : ℕ) (b : Bool) → ltb (2 * n) all ≡ b → n < all
    → (cond b (ltb n 64) (leb all (n + 64)) ≡ true) ⊎ (all ≤ 128) →
    (cond b n (n + 128 - all) < 128)
    × (((cond b n (n + 128 - all) < 64) × (2 * cond b n (n + 128 - all) < all) × (n ≡ cond b n (n + 128 - all)))
    ⊎ ((64 ≤ cond b n (n + 128 - all)) × (256 ≤ 2 * cond b n (n + 128 - all) + all)
    × (n + 128 ≡ cond b n (n + 128 - all) + all)))
last_case n all true e lt (inl h) =
    let k = ltb-true n 64 h in let g = ltb-true (2 * n) all e in (omega arith, inl (k, g, refl))
last_case n all true e lt (inr h) = let g = ltb-true (2 * n) all e in (omega arith, inl (omega arith, g, refl))
last_case n all false e lt (inl h) =
    let k =
    leb-true all (n + 64) h in let g =
    ltb-false (2 * n) all e in (omega arith, inr (omega arith, omega arith, omega arith))
last_case n all false e lt (inr h) =
    let g = ltb-false (2 * n) all e in (omega arith, inr (omega arith, omega arith, omega arith))

last_spells :
    (bits n : ℕ) (rest : List ℕ) → n < 2 ^ bits → (is_last_signed bits n ≡ true) ⊎ (2 ^ bits ≤ 128)
    → IsSigned bits (last_signed bits n ∷ rest) n rest
last_spells bits n rest lt h = let k = last_case n (2 ^ bits) (ltb (2 * n) (2 ^ bits)) refl lt h in inl (k.0, k.1, refl)

signed_case :
    (more bits n : ℕ) (rest : List ℕ) → n < 2 ^ bits → bits ≤ 7 * suc more + 7 → (b : Bool) → is_last_signed bits n ≡ b
    → (7 < bits → IsSigned (bits - 7) (canon_signed more (bits - 7) (n / 128) ++ rest) (n / 128) rest)
    → IsSigned bits
    (cond b (last_signed bits n ∷ []) ((128 + n % 128) ∷ canon_signed more (bits - 7) (n / 128)) ++ rest) n rest
signed_case more bits n rest lt few true e high = last_spells bits n rest lt (inl e)
signed_case more bits n rest lt few false e high =
    let big : 7 < bits = bits_left bits (not_last bits n lt e) in
    inr (omega arith, omega arith, big, n / 128, high big, omega arith)

pub signed_spells :
    (more bits n : ℕ) (rest : List ℕ) → n < 2 ^ bits → 0 < bits → bits ≤ 7 * more + 7
    → IsSigned bits (canon_signed more bits n ++ rest) n rest
unfolding canon_signed
signed_spells zero bits n rest lt pos few =
    let k : 2 ^ bits ≤ 2 ^ 7 = pow_mono {j = 7} (omega arith) in last_spells bits n rest lt (inr k)
signed_spells (suc more) bits n rest lt pos few =
    signed_case more bits n rest lt few (is_last_signed bits n) refl
    (λ l. signed_spells more (bits - 7) (n / 128) rest (high_bits bits n l lt) (omega arith) (omega arith))
