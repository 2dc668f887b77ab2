-- A count of more indices than there are bytes left is a fault, since an index takes a byte or more.
use Rattle.std.proofs.Common.{◌≡◌, ℕ, zero, suc, ◌+◌, ◌-◌, ◌*◌, ◌^◌, ◌<◌, ◌≢◌, Bool, true, false, cond, ltb, List, [], ◌∷◌, length, Ok, Err, refl, sym, ap, ◌∙◌, arith}
use Rattle.std.specs.Prelude.{◌&&◌}
use Rattle.wasm_binary.specs.declared.fault.Fault.TheVariants.{Bad}
use Rattle.wasm_binary.specs.declared.fault.ReadError.{ReadError}
use Rattle.wasm_binary.specs.declared.fault.ReadError.TheVariants as errors
use Rattle.wasm_binary.specs.Inside.Reading.{◌>>=◌, CountsMore, Fails, Read, need, read_last_unsigned, read_unsigned, read_u32, read_items}

-- a number takes a byte or more, and its only fault is Bad
abbrev Takes : List ℕ → Read ℕ → Type 0
Takes bytes (Ok x) = length x.1 < length bytes
Takes bytes (Err f) = f ≡ Bad

either : (t : Bool) (bytes : List ℕ) (r s : Read ℕ) → Takes bytes r → Takes bytes s → Takes bytes (cond t r s)
either true bytes r s h k = h
either false bytes r s h k = k

last_takes : (t : Bool) (b : ℕ) (bs : List ℕ) → Takes (b ∷ bs) (need t Bad (Ok b) >>= λ n. Ok (n, bs))
last_takes true b bs = omega arith
last_takes false b bs = refl

high_takes :
    (t : Bool) (b : ℕ) (bs : List ℕ) (r : Read ℕ) → Takes bs r
    → Takes (b ∷ bs) (need t Bad (r >>= λ high. Ok (128 * high.0 + (b - 128), high.1)))
high_takes true b bs (Ok x) h = omega (arith, h)
high_takes true b bs (Err f) h = h
high_takes false b bs r h = refl

unsigned_takes : (bits : ℕ) (bytes : List ℕ) → Takes bytes (read_unsigned bits bytes)
unfolding read_unsigned read_last_unsigned
unsigned_takes bits [] = refl
unsigned_takes bits (b ∷ bs) =
    either (ltb b 128) (b ∷ bs)
    (need (ltb b (2 ^ bits)) Bad (Ok b) >>= λ n. Ok (n, bs))
    (need (ltb b 256 && ltb 7 bits) Bad
    (read_unsigned (bits - 7) bs >>= λ high. Ok (128 * high.0 + (b - 128), high.1)))
    (last_takes (ltb b (2 ^ bits)) b bs)
    (high_takes (ltb b 256 && ltb 7 bits) b bs (read_unsigned (bits - 7) bs) (unsigned_takes (bits - 7) bs))

one_more :
    (n : ℕ) (bytes : List ℕ) (r : Read ℕ) → length bytes < suc n → Takes bytes r
    → ((rest : List ℕ) → length rest < n → read_items read_u32 n rest ≡ Err Bad)
    → (r >>= λ x. (◌>>=◌ {B = List ℕ × List ℕ} (read_items read_u32 n x.1) (λ xs. Ok (x.0 ∷ xs.0, xs.1)))) ≡ Err Bad
one_more n bytes (Ok x) lt h fewer = rw (fewer x.1 (omega (arith, lt, h))) refl
one_more n bytes (Err f) lt h fewer = ap Err h

pub too_many : (n : ℕ) (bytes : List ℕ) → length bytes < n → read_items read_u32 n bytes ≡ Err Bad
unfolding read_items read_u32
too_many zero bytes lt = absurd (omega (arith, lt))
too_many (suc n) bytes lt =
    one_more n bytes (read_unsigned 32 bytes) lt (unsigned_takes 32 bytes) (λ rest. too_many n rest)

-- what counts more has a count
pub has_count : (e : ReadError) (bytes : List ℕ) → CountsMore bytes → Fails e (read_u32 bytes) → e ≢ errors.Memory → ⊥
has_count errors.Memory bytes more fails other = other refl
has_count (errors.Fault f s) bytes (n, rest, is, lt) fails other =
    let clash : Ok (n, rest) ≡ Err f = sym is ∙ fails in cc
