-- Reading items one after the other, as a loop does.
use Rattle.std.proofs.Common.{◌≡◌, ℕ, suc, ◌-◌, ◌+◌, ◌≤◌, ◌<◌, List, [], ◌∷◌, ◌++◌, Ok, Err, refl, sym, ap, ◌∙◌, append_assoc, arith}
use Rattle.std.proofs.lemmas.List.{append-nil}
use Rattle.wasm_binary.specs.declared.fault.ReadError.{ReadError}
use Rattle.wasm_binary.specs.declared.fault.ReadError.TheVariants as errors
use Rattle.wasm_binary.specs.Inside.Reading.{◌>>=◌, Fails, Read, read_items}

-- what was read before, and what is still read
abbrev pub with_front : {X : Type 0} → List X → Read (List X) → Read (List X)
with_front front read = read >>= λ x. Ok (front ++ x.0, x.1)

pub regroup :
    {X : Type 0} (front : List X) (n : X) (read : Read (List X))
    → with_front front (read >>= λ x. Ok (n ∷ x.0, x.1)) ≡ with_front (front ++ n ∷ []) read
regroup {X} front n (Ok x) = ap (λ (ns : List X). Ok (ns, x.1)) (simp append_assoc)
regroup front n (Err f) = refl

pub goes_on :
    {X : Type 0} (read : List ℕ → Read X) (front : List X) (count i : ℕ) (bytes : List ℕ) (n : X) (after : List ℕ)
    (total : Read (List X)) → i < count → read bytes ≡ Ok (n, after)
    → with_front front (read_items read (count - i) bytes) ≡ total
    → with_front (front ++ n ∷ []) (read_items read (count - (i + 1)) after) ≡ total
unfolding read_items
goes_on read front count i bytes n after total lt h so_far =
    let k : count - i ≡ suc (count - (i + 1)) = omega arith in
    let one :
    with_front front (read_items read (count - i) bytes)
    ≡ with_front (front ++ n ∷ []) (read_items read (count - (i + 1)) after) =
    rw (k, h) (regroup front n (read_items read (count - (i + 1)) after)) in
    sym one ∙ so_far

pub ends :
    {X : Type 0} (read : List ℕ → Read X) (e : ReadError) (front : List X) (count i : ℕ) (bytes : List ℕ)
    (total : Read (List X)) → i < count → Fails e (read bytes)
    → with_front front (read_items read (count - i) bytes) ≡ total → Fails e total
unfolding read_items
ends read errors.Memory front count i bytes total lt h so_far = tt
ends read (errors.Fault f s) front count i bytes total lt h so_far =
    let k : count - i ≡ suc (count - (i + 1)) = omega arith in
    let one : with_front front (read_items read (count - i) bytes) ≡ Err f = rw (k, h) refl in
    sym so_far ∙ one

pub is_done :
    {X : Type 0} (read : List ℕ → Read X) (front : List X) (count i : ℕ) (bytes : List ℕ) (total : Read (List X))
    → count ≤ i → with_front front (read_items read (count - i) bytes) ≡ total → total ≡ Ok (front, bytes)
unfolding read_items
is_done {X} read front count i bytes total le so_far =
    let k : count - i ≡ 0 = omega arith in
    let one :
    with_front front (read_items read (count - i) bytes) ≡ Ok (front, bytes) =
    rw k (ap (λ (ns : List X). Ok (ns, bytes)) (append-nil front)) in
    sym so_far ∙ one

-- before the first
pub begins : {X : Type 0} (total : Read (List X)) → with_front [] total ≡ total
begins (Ok x) = refl
begins (Err f) = refl
