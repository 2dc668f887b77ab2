-- Whether a byte is the first.
use Rattle.std.proofs.Common.{◌≡◌, ℕ, List, drop, true, false, Option, Some, None, Bor, refl}
use Rattle.std.specs.Prelude.{MatchOption}
use Rattle.wasm_binary.specs.Inside.Reading.{begins_with}

pub not_first : (b : ℕ) (bytes : List ℕ) (r : Option (Bor (List ℕ)))
    → MatchOption r (begins_with b bytes ≡ false) (λ rest. (begins_with b bytes ≡ true) × (rest.now ≡ drop 1 bytes))
    → ((x : Bor (List ℕ)) → r ≡ Some x → ⊥) → begins_with b bytes ≡ false
not_first b bytes None h never = h
not_first b bytes (Some x) h never = absurd (never x refl)
