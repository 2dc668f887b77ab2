-- Canonical numbers are the shortest, and canonical runs the longest.
use Rattle.std.proofs.Common.{◌≡◌, ℕ, zero, suc, ◌+◌, ◌-◌, ◌*◌, ◌/◌, ◌%◌, ◌^◌, ◌<◌, ◌≤◌, Bool, true, false, cond, ltb, leb, List, [], ◌∷◌, length, fold, refl, ap, arith, inl, inr}
use Rattle.std.specs.Prelude.{◌⊎◌}
use Rattle.std.proofs.lemmas.Bool.{cases_lt, lt-ltb, le-ltb, ltb-true, ltb-false, le-leb}
use Rattle.wasm_ast.specs.declared.values.ValType.{ValType}
use Rattle.wasm_ast.specs.Types.{is_same_type}
use Rattle.wasm_ast.proofs.SameTypes.{itself}
use Rattle.wasm_binary.specs.Numbers as numbers
use Rattle.wasm_binary.specs.Numbers.{IsUnsigned, IsLastSigned, IsSigned}
use Rattle.wasm_binary.specs.Canonical.{canon_unsigned, canon_signed, last_signed, is_last_signed, canon_number, add_local, runs_of, AreLongest}

unsigned_small : (more n : ℕ) → n < 128 → length (canon_unsigned more n) ≡ 1
unfolding canon_unsigned
unsigned_small zero n lt = refl
unsigned_small (suc more) n lt = rw (lt-ltb n 128 lt) refl

unsigned_least :
    (more bits : ℕ) (bytes : List ℕ) (n : ℕ) (rest : List ℕ) → IsUnsigned bits bytes n rest
    → length (canon_unsigned more n) + length rest ≤ length bytes
unfolding canon_unsigned
unsigned_least more bits [] n rest h = absurd h
unsigned_least more bits (b ∷ bs) n rest (inl h) =
    omega (arith, unsigned_small more n (omega (arith, h.0, h.1.1)), ap length h.2)
unsigned_least zero bits (b ∷ bs) n rest (inr h) = omega (arith, unsigned_least zero (bits - 7) bs h.3 rest h.4)
unsigned_least (suc more) bits (b ∷ bs) n rest (inr h) = elim (cases_lt n 128) [
  | inl s ↦ rw (lt-ltb n 128 s) (omega (arith, unsigned_least more (bits - 7) bs h.3 rest h.4))
  | inr l ↦
      let e : n / 128 ≡ h.3 = omega (arith, h.0, h.1, h.5) in
      rw (le-ltb n 128 l, e) (omega (arith, unsigned_least more (bits - 7) bs h.3 rest h.4))
]

pub number_least :
    (bytes : List ℕ) (n : ℕ) (rest : List ℕ) → numbers.IsU32 bytes n rest
    → length (canon_number n) + length rest ≤ length bytes
number_least bytes n rest h = unsigned_least 9 32 bytes n rest h

test_case :
    (n all : ℕ) (b : Bool) → ltb (2 * n) all ≡ b → (byte : ℕ) → byte < 128
    → (((byte < 64) × (2 * byte < all) × (n ≡ byte)) ⊎ ((64 ≤ byte) × (256 ≤ 2 * byte + all) × (n + 128 ≡ byte + all)))
    → cond b (ltb n 64) (leb all (n + 64)) ≡ true
test_case n all true e byte lt (inl h) = lt-ltb n 64 (omega (arith, h.0, h.2))
test_case n all true e byte lt (inr h) = let k = ltb-true (2 * n) all e in absurd (omega (arith, h.0, h.1, h.2))
test_case n all false e byte lt (inl h) = let k = ltb-false (2 * n) all e in absurd (omega (arith, h.1, h.2))
test_case n all false e byte lt (inr h) = le-leb all (n + 64) (omega (arith, h.0, h.2))

signed_small : (more bits n : ℕ) → is_last_signed bits n ≡ true → length (canon_signed more bits n) ≡ 1
unfolding canon_signed
signed_small zero bits n h = refl
signed_small (suc more) bits n h = rw h refl

signed_case :
    (more bits n high : ℕ) (bs rest : List ℕ) (b : Bool)
    → length (canon_signed more (bits - 7) high) + length rest ≤ length bs → n / 128 ≡ high
    → length (cond b (last_signed bits n ∷ []) ((128 + n % 128) ∷ canon_signed more (bits - 7) (n / 128))) + length rest
    ≤ suc (length bs)
signed_case more bits n high bs rest true h e = omega arith
signed_case more bits n high bs rest false h e = rw e (omega arith)

pub signed_least :
    (more bits : ℕ) (bytes : List ℕ) (n : ℕ) (rest : List ℕ) → IsSigned bits bytes n rest
    → length (canon_signed more bits n) + length rest ≤ length bytes
unfolding canon_signed
signed_least more bits [] n rest h = absurd h
signed_least more bits (b ∷ bs) n rest (inl h) =
    omega (
      arith,
      signed_small more bits n (test_case n (2 ^ bits) (ltb (2 * n) (2 ^ bits)) refl b h.0 h.1),
      ap length h.2,
    )
signed_least zero bits (b ∷ bs) n rest (inr h) = omega (arith, signed_least zero (bits - 7) bs h.3 rest h.4)
signed_least (suc more) bits (b ∷ bs) n rest (inr h) =
    let e : n / 128 ≡ h.3 = omega (arith, h.0, h.1, h.5) in
    signed_case more bits n h.3 bs rest (is_last_signed bits n) (signed_least more (bits - 7) bs h.3 rest h.4) e

-- ---- runs

differs : (u t : ValType) → is_same_type u t ≡ false → u ≡ t → ⊥
differs u t h e = let k : is_same_type u t ≡ true = rw (← e) (itself u) in absurd cc

longest_case :
    (r : ℕ × ValType) (t : ValType) (b : Bool) → is_same_type r.1 t ≡ b → 0 < r.0
    → AreLongest (cond b ((r.0 + 1, r.1) ∷ []) (r ∷ (1, t) ∷ []))
longest_case r t true e pos = omega arith
longest_case r t false e pos = (pos, differs r.1 t e, omega arith)

-- after a run of another type than the first of those to which a local is added
longest_after :
    (q r : ℕ × ValType) (t : ValType) (b : Bool) → is_same_type r.1 t ≡ b → 0 < q.0 → (q.1 ≡ r.1 → ⊥) → 0 < r.0
    → AreLongest (q ∷ cond b ((r.0 + 1, r.1) ∷ []) (r ∷ (1, t) ∷ []))
longest_after q r t true e pos other some = (pos, other, omega arith)
longest_after q r t false e pos other some = (pos, other, (some, differs r.1 t e, omega arith))

longest_add : (rs : List (ℕ × ValType)) (t : ValType) → AreLongest rs → AreLongest (add_local rs t)
longest_add [] t h = omega arith
longest_add (r ∷ []) t h = longest_case r t (is_same_type r.1 t) refl h
longest_add (q ∷ r ∷ []) t h = longest_after q r t (is_same_type r.1 t) refl h.0 h.1 h.2
longest_add (q ∷ r ∷ s ∷ rs) t h = (h.0, h.1, longest_add (r ∷ s ∷ rs) t h.2)

longest_fold : (rs : List (ℕ × ValType)) (ts : List ValType) → AreLongest rs → AreLongest (fold add_local rs ts)
longest_fold rs [] h = h
longest_fold rs (t ∷ ts) h = longest_fold (add_local rs t) ts (longest_add rs t h)

pub runs_longest : (ts : List ValType) → AreLongest (runs_of ts)
runs_longest ts = longest_fold [] ts tt
