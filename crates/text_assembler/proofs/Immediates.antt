-- The last of a list of indices, and exponents that are tried one after the other.
use Rattle.std.proofs.Common.{◌≡◌, ℕ, suc, ◌+◌, ◌-◌, ◌^◌, ◌<◌, ◌≤◌, List, [], ◌∷◌, ◌++◌, Ok, Err, ◌*◌, ◌%◌, ◌==◌, if◌then◌else◌, refl, ◌∙◌, arith}
use Rattle.std.proofs.Math.Pow.{pow-lt}
use Rattle.std.proofs.lemmas.Bool.{eq-eqb, ne_eqb}
use Rattle.text_assembler.specs.declared.fault.Fault.TheVariants.{Malformed}
use Rattle.text_assembler.specs.Instructions.{last_of, exponent_from}

pub last_is : (ns : List ℕ) (n : ℕ) → last_of (ns ++ n ∷ []) ≡ Ok (ns, n)
unfolding last_of
last_is [] n = refl
last_is (m ∷ []) n = refl
last_is (m ∷ k ∷ ns) n = rw (last_is (k ∷ ns) n) refl

pub tries_on :
    (n i : ℕ) → i < 32
    → exponent_from (32 - i) i n ≡ (if n == 2 ^ i then Ok i else exponent_from (32 - (i + 1)) (i + 1) n)
unfolding exponent_from
tries_on n i lt = let k : 32 - i ≡ suc (32 - (i + 1)) = omega arith in rw k refl

pub tries_end : (n i : ℕ) → 32 ≤ i → exponent_from (32 - i) i n ≡ Err Malformed
unfolding exponent_from
tries_end n i le = let k : 32 - i ≡ 0 = omega arith in rw k refl

pub found_at : (n i : ℕ) → i < 32 → n ≡ 2 ^ i → exponent_from (32 - i) i n ≡ Ok i
found_at n i lt e = tries_on n i lt ∙ rw (eq-eqb n (2 ^ i) e) refl

pub missed_at :
    (n i : ℕ) → i < 32 → (n ≡ 2 ^ i → ⊥) → exponent_from (32 - i) i n ≡ exponent_from (32 - (i + 1)) (i + 1) n
missed_at n i lt ne = tries_on n i lt ∙ rw (ne_eqb n (2 ^ i) ne) refl

pub shifted : (i : ℕ) → i < 32 → (1 * 2 ^ i) % 4294967296 ≡ 2 ^ i
shifted i lt = let p : 2 ^ i < 2 ^ 32 = pow-lt lt in omega (arith, p)
