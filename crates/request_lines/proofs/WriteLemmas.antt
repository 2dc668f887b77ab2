-- What is written of bytes, piece by piece.
use Rattle.std.proofs.Common.{◌≡◌, ◌≤◌, ℕ, ◌+◌, ◌-◌, ◌++◌, List, Option, length, take, drop, ap, arith, subst, sym, take-add, take_all, take-append-drop, length-drop}
use Rattle.std.proofs.KnownBytes.{Appends-trans}
use Rattle.std.specs.Io.KnownBytes.{Appends}

-- the bytes from a place on, as a slice of them
abbrev pub rest_of : (bytes : List ℕ) → (at : ℕ) → List ℕ
rest_of bytes at = take (length bytes - at) (drop at bytes)

rest_is : (bytes : List ℕ) (at : ℕ) → rest_of bytes at ≡ drop at bytes
rest_is bytes at = take_all (length bytes - at) (drop at bytes) (omega (arith, length-drop at bytes))

-- the bytes before a place, and then some more
pub appends_more : (old now next : Option (List ℕ)) (bytes : List ℕ) (at n : ℕ) → Appends old now (take at bytes)
    → Appends now next (take n (rest_of bytes at)) → Appends old next (take (at + n) bytes)
appends_more old now next bytes at n h g =
    subst (Appends old next) (sym (take-add at n bytes))
    (Appends-trans old now next (take at bytes) (take n (drop at bytes)) h
    (subst (λ (r : List ℕ). Appends now next (take n r)) (rest_is bytes at) g))

pub no_further : (bytes : List ℕ) (at n : ℕ) → at ≤ length bytes → n ≤ length (rest_of bytes at) → at + n ≤ length bytes
no_further bytes at n before bound = omega (arith, before, bound, ap length (rest_is bytes at), length-drop at bytes)

pub begins_take : (n : ℕ) (bytes : List ℕ) → (rest : List ℕ) × (take n bytes ++ rest ≡ bytes)
begins_take n bytes = (drop n bytes, take-append-drop n bytes)
