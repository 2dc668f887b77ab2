-- A reader is sound: what it answers is encoded so by the bytes, and if it answers a limit, that limit is passed.
use Rattle.std.proofs.Common.{◌≡◌, ℕ, zero, suc, ◌+◌, ◌-◌, ◌*◌, ◌^◌, ◌<◌, ◌≤◌, Bool, true, false, cond, ltb, eqb, List, [], ◌∷◌, ◌++◌, length, take, drop, Result, Ok, Err, Some, None, refl, sym, ap, subst, arith, inl, inr}
use Rattle.std.specs.Prelude.{◌&&◌}
use Rattle.std.specs.Str.{is_utf8}
use Rattle.std.specs.List.{AllByRecursion}
use Rattle.std.proofs.lemmas.Bool.{ltb-true, ltb-false, eqb-true}
use Rattle.std.proofs.lemmas.List.{take-append-drop, length-take-le, nil_from_length}
use Rattle.std.proofs.lemmas.Str.{IsUtf8-from_is_utf8}
use Rattle.wasm_ast.specs.declared.values.ValType.TheVariants as type
use Rattle.wasm_ast.specs.declared.instr.BlockType.TheVariants.{Empty, One, Index}
use Rattle.wasm_ast.specs.Limits.{max_results}
use Rattle.wasm_ast.proofs.LimitLemmas.{TypeWithin, MinWithin}
use Rattle.wasm_binary.specs.declared.fault.Fault.{Fault}
use Rattle.wasm_binary.specs.declared.fault.Fault.TheVariants.{Bad, Over}
use Rattle.wasm_binary.specs.Numbers.{IsLastUnsigned, IsUnsigned, IsLastSigned, IsSigned, IsU32}
use Rattle.wasm_binary.specs.Opcodes.{type_byte, func_type_byte, empty_byte, min_byte, min_max_byte}
use Rattle.wasm_binary.specs.Grammar.{Form, AreItems, IsVector, IsSized, AreBytes, IsName, IsValType, IsFuncType, IsBlockType, IsLimits}
use Rattle.wasm_binary.specs.Limits.{WithinSize, InVector, NumberOver, ResultsOver, LimitsOver}
use Rattle.wasm_binary.specs.Inside.Reading.{◌>>=◌, Read, need, read_byte, begins_with, skip_byte, read_unsigned, read_last_unsigned, read_signed, read_last_signed, read_u32, read_bytes, skip_exact, read_sized, read_items, read_vector, read_bounded, read_byte_vector, read_name, val_type_of, read_val_type, read_func_type, read_block_index, read_block_type, read_min, read_limits}

abbrev pub SoundAnswer : {X : Type 0} → (X → Type 0) → Type 0 → Result X Fault → Type 0
SoundAnswer P Q (Ok x) = P x
SoundAnswer P Q (Err Bad) = Unit {0}
SoundAnswer P Q (Err Over) = Q

-- P holds of a value that is answered, and Q where a limit is
pub record Sound {X : Type 0} (P : X → Type 0) (Q : Type 0) (r : Result X Fault) : Type 0 where
  pub sound : SoundAnswer P Q r

pub sound_ok : {X : Type 0} {P : X → Type 0} {Q : Type 0} (x : X) → P x → Sound P Q (Ok x)
sound_ok x h = record { sound = h }

pub sound_then :
    {A B : Type 0} {P : A → Type 0} {Q : Type 0} {P' : B → Type 0} {Q' : Type 0} {r : Result A Fault}
    {f : A → Result B Fault} → Sound P Q r → ((x : A) → P x → Sound P' Q' (f x)) → (Q → Q') → Sound P' Q' (r >>= f)
sound_then {r = Ok x} h k o = k x h.sound
sound_then {r = Err Bad} h k o = record { sound = tt }
sound_then {r = Err Over} h k o = record { sound = o h.sound }

pub sound_more :
    {A : Type 0} {P : A → Type 0} {Q : Type 0} {P' : A → Type 0} {Q' : Type 0} {r : Result A Fault} → Sound P Q r
    → ((x : A) → P x → P' x) → (Q → Q') → Sound P' Q' r
sound_more {r = Ok x} h k o = record { sound = k x h.sound }
sound_more {r = Err Bad} h k o = record { sound = tt }
sound_more {r = Err Over} h k o = record { sound = o h.sound }

pub sound_need :
    {X : Type 0} {P : X → Type 0} {Q : Type 0} {r : Result X Fault} (b : Bool) → (b ≡ true → Sound P Q r)
    → Sound P Q (need b Bad r)
sound_need true h = h refl
sound_need false h = record { sound = tt }

pub never : {Q : Type 0} → ⊥ → Q
never h = absurd h

pub sound_if :
    {X : Type 0} {P : X → Type 0} {Q : Type 0} {r t : Result X Fault} (b : Bool) → (b ≡ true → Sound P Q r)
    → (b ≡ false → Sound P Q t) → Sound P Q (cond b r t)
sound_if true h k = h refl
sound_if false h k = k refl

pub sound_over : {X : Type 0} {P : X → Type 0} {Q : Type 0} → Q → Sound {X = X} P Q (Err Over)
sound_over q = record { sound = q }

pub sound_bad : {X : Type 0} {P : X → Type 0} {Q : Type 0} → Sound {X = X} P Q (Err Bad)
sound_bad = record { sound = tt }

both_true : (a b : Bool) → (a && b) ≡ true → (a ≡ true) × (b ≡ true)
both_true true true e = (refl, refl)
both_true true false e = absurd cc
both_true false true e = absurd cc
both_true false false e = absurd cc

-- ---- bytes and numbers

pub begins_is : (b : ℕ) (bytes : List ℕ) → begins_with b bytes ≡ true → bytes ≡ b ∷ drop 1 bytes
unfolding begins_with
begins_is b [] e = absurd cc
begins_is b (c ∷ cs) e = ap (λ (x : ℕ). x ∷ cs) (eqb-true c b e)

pub skip_sound : (b : ℕ) (bytes : List ℕ) → Sound (λ rest. bytes ≡ b ∷ rest) ⊥ (skip_byte b bytes)
unfolding skip_byte
skip_sound b bytes = sound_need (begins_with b bytes) (λ e. sound_ok (drop 1 bytes) (begins_is b bytes e))

pub byte_sound : (bytes : List ℕ) → Sound (λ x. bytes ≡ x.0 ∷ x.1) ⊥ (read_byte bytes)
unfolding read_byte
byte_sound [] = sound_bad
byte_sound (b ∷ bs) = sound_ok (b, bs) refl

last_unsigned_sound : (bits b : ℕ) → Sound (λ n. IsLastUnsigned bits b n) ⊥ (read_last_unsigned bits b)
unfolding read_last_unsigned
last_unsigned_sound bits b = sound_need (ltb b (2 ^ bits)) (λ e. sound_ok b (ltb-true b (2 ^ bits) e, refl))

unsigned_sound : (bits : ℕ) (bytes : List ℕ) → Sound (λ x. IsUnsigned bits bytes x.0 x.1) ⊥ (read_unsigned bits bytes)
unfolding read_unsigned
unsigned_sound bits [] = sound_bad
unsigned_sound bits (b ∷ bs) = sound_if (ltb b 128)
    (λ lt. sound_then (last_unsigned_sound bits b) (λ n hn. sound_ok (n, bs) (inl (ltb-true b 128 lt, hn, refl))) never)
    (λ ge. sound_need (ltb b 256 && ltb 7 bits)
    (λ both. let e = both_true (ltb b 256) (ltb 7 bits) both
    in sound_then (unsigned_sound (bits - 7) bs) (λ high hh.
    sound_ok (128 * high.0 + (b - 128), high.1)
    (inr (ltb-false b 128 ge, ltb-true b 256 e.0, ltb-true 7 bits e.1, high.0, hh, refl))) never))

last_signed_sound : (bits b : ℕ) → b < 128 → Sound (λ n. IsLastSigned bits b n) ⊥ (read_last_signed bits b)
unfolding read_last_signed
last_signed_sound bits b h = sound_if (ltb b 64)
    (λ lt. sound_need (ltb (2 * b) (2 ^ bits))
    (λ e. sound_ok b (inl (ltb-true b 64 lt, ltb-true (2 * b) (2 ^ bits) e, refl))))
    (λ ge. sound_need (ltb 255 (2 * b + 2 ^ bits)) (λ e.
    let ge' : 64 ≤ b = ltb-false b 64 ge in
    let lt : 255 < 2 * b + 2 ^ bits = ltb-true 255 (2 * b + 2 ^ bits) e in
    sound_ok (2 ^ bits - (128 - b)) (inr (ge', omega arith, omega arith))))

pub signed_sound : (bits : ℕ) (bytes : List ℕ) → Sound (λ x. IsSigned bits bytes x.0 x.1) ⊥ (read_signed bits bytes)
unfolding read_signed
signed_sound bits [] = sound_bad
signed_sound bits (b ∷ bs) = sound_if (ltb b 128)
    (λ lt. sound_then (last_signed_sound bits b (ltb-true b 128 lt))
    (λ n hn. sound_ok (n, bs) (inl (ltb-true b 128 lt, hn, refl))) never)
    (λ ge. sound_need (ltb b 256 && ltb 7 bits)
    (λ both. let e = both_true (ltb b 256) (ltb 7 bits) both in sound_then (signed_sound (bits - 7) bs) (λ high hh.
    sound_ok (128 * high.0 + (b - 128), high.1)
    (inr (ltb-false b 128 ge, ltb-true b 256 e.0, ltb-true 7 bits e.1, high.0, hh, refl))) never))

pub u32_sound : (bytes : List ℕ) → Sound (λ x. IsU32 bytes x.0 x.1) ⊥ (read_u32 bytes)
unfolding read_u32
u32_sound bytes = unsigned_sound 32 bytes

-- ---- parts

part_sound : (n : ℕ) (bytes : List ℕ) → Sound (λ x. (bytes ≡ x.0 ++ x.1) × (length x.0 ≡ n)) ⊥ (read_bytes n bytes)
unfolding read_bytes
part_sound n bytes = sound_if (ltb (length bytes) n)
    (λ lt. sound_bad)
    (λ ge. sound_ok (take n bytes, drop n bytes)
    (sym (take-append-drop n bytes), length-take-le n bytes (ltb-false (length bytes) n ge)))

exact_sound :
    (size : ℕ) (left bytes : List ℕ)
    → Sound (λ rest. (left ≡ []) × (bytes ≡ take size bytes ++ rest) × (length (take size bytes) ≡ size)) ⊥
    (skip_exact size left bytes)
unfolding skip_exact
exact_sound size left bytes = sound_need (eqb (length left) 0) (λ e. sound_if (ltb (length bytes) size)
    (λ lt. sound_bad)
    (λ ge. sound_ok (drop size bytes) (
      nil_from_length left (eqb-true (length left) 0 e),
      sym (take-append-drop size bytes),
      length-take-le size bytes (ltb-false (length bytes) size ge),
    )))

pub sized_sound :
    {X : Type 0} (IsX : Form X) (Q : List ℕ → Type 0) (read : List ℕ → Read X)
    → ((part : List ℕ) → Sound (λ x. IsX part x.0 x.1) (Q part) (read part))
    → (bytes : List ℕ) → Sound (λ x. IsSized IsX bytes x.0 x.1) (WithinSize Q bytes) (read_sized read bytes)
unfolding read_sized
sized_sound IsX Q read each bytes =
    sound_then (u32_sound bytes)
    (λ n hn. sound_then (each (take n.0 n.1)) (λ x hx. sound_then (exact_sound n.0 x.1 n.1) (λ rest hr.
    sound_ok (x.0, rest) (take n.0 n.1, n.1, rw hr.2 hn, hr.1, subst (λ left. IsX (take n.0 n.1) x.0 left) hr.0 hx))
    never) (λ q. (n.0, n.1, hn, q))) never

-- some items are whole, and the next one is over so
abbrev pub ItemsOver : {X : Type 0} → Form X → (List ℕ → Type 0) → (count : ℕ) → List ℕ → Type 0
ItemsOver {X} IsX Q count bytes =
    (xs : List X) × (mid : List ℕ) × AreItems IsX bytes xs mid × (length xs < count) × Q mid

-- items of which E is known
pub items_sound :
    {X : Type 0} (IsX : Form X) (E : X → Type 0) (Q : List ℕ → Type 0) (read : List ℕ → Read X)
    → ((part : List ℕ) → Sound (λ x. IsX part x.0 x.1 × E x.0) (Q part) (read part))
    → (n : ℕ) (bytes : List ℕ)
    → Sound (λ x. AreItems IsX bytes x.0 x.1 × (length x.0 ≡ n) × AllByRecursion E x.0) (ItemsOver IsX Q n bytes)
    (read_items read n bytes)
unfolding read_items
items_sound IsX E Q read each zero bytes = sound_ok ([], bytes) (refl, refl, tt)
items_sound IsX E Q read each (suc n) bytes =
    sound_then (each bytes) (λ x hx. sound_then (items_sound IsX E Q read each n x.1) (λ xs hxs.
    sound_ok (x.0 ∷ xs.0, xs.1) ((x.1, hx.0, hxs.0), ap suc hxs.1, (hx.1, hxs.2)))
    (λ q. (x.0 ∷ q.0, q.1, (x.1, hx.0, q.2), omega (arith, q.3), q.4)))
    (λ q. ([], bytes, refl, omega arith, q))

pub vector_known :
    {X : Type 0} (IsX : Form X) (E : X → Type 0) (Q : List ℕ → Type 0) (read : List ℕ → Read X)
    → ((part : List ℕ) → Sound (λ x. IsX part x.0 x.1 × E x.0) (Q part) (read part))
    → (bytes : List ℕ)
    → Sound (λ x. IsVector IsX bytes x.0 x.1 × AllByRecursion E x.0) (InVector IsX (λ _ _. Q) bytes)
    (read_vector read bytes)
unfolding read_vector
vector_known IsX E Q read each bytes =
    sound_then (u32_sound bytes) (λ n hn. sound_more (items_sound IsX E Q read each n.0 n.1)
    (λ xs hxs. ((n.1, rw hxs.1 hn, hxs.0), hxs.2)) (λ q. (n.0, n.1, q.0, q.1, hn, q.2, q.3, q.4))) never

pub vector_sound :
    {X : Type 0} (IsX : Form X) (read : List ℕ → Read X)
    → ((part : List ℕ) → Sound (λ x. IsX part x.0 x.1) ⊥ (read part))
    → (bytes : List ℕ) → Sound (λ x. IsVector IsX bytes x.0 x.1) ⊥ (read_vector read bytes)
vector_sound IsX read each bytes =
    sound_more
    (vector_known IsX (λ _. Unit {0}) (λ _. ⊥) read (λ part. sound_more (each part) (λ x h. (h, tt)) never) bytes)
    (λ x h. h.0) (λ q. absurd q.7)

-- a vector whose count, together with this many before it, may not be over a limit
pub bounded_sound :
    {X : Type 0} (most before : ℕ) (IsX : Form X) (read : List ℕ → Read X)
    → ((part : List ℕ) → Sound (λ x. IsX part x.0 x.1) ⊥ (read part))
    → (bytes : List ℕ)
    → Sound (λ x. IsVector IsX bytes x.0 x.1 × (before + length x.0 ≤ most)) (NumberOver most before bytes)
    (read_bounded true most before read bytes)
unfolding read_bounded
bounded_sound most before IsX read each bytes =
    sound_then (u32_sound bytes) (λ n hn. sound_if (ltb most (before + n.0))
    (λ over. sound_over (n.0, n.1, hn, ltb-true most (before + n.0) over))
    (λ under. sound_more
    (items_sound IsX (λ _. Unit {0}) (λ _. ⊥) read (λ part. sound_more (each part) (λ x h. (h, tt)) never) n.0 n.1)
    (λ xs h. ((n.1, rw h.1 hn, h.0), rw h.1 (ltb-false most (before + n.0) under))) (λ q. absurd q.4))) never

pub byte_vector_sound : (bytes : List ℕ) → Sound (λ x. AreBytes bytes x.0 x.1) ⊥ (read_byte_vector bytes)
unfolding read_byte_vector
byte_vector_sound bytes =
    sound_then (u32_sound bytes) (λ n hn. sound_more (part_sound n.0 n.1) (λ p hp. (n.1, rw hp.1 hn, hp.0)) never) never

pub name_sound : (bytes : List ℕ) → Sound (λ x. IsName bytes x.0 x.1) ⊥ (read_name bytes)
unfolding read_name
name_sound bytes =
    sound_then (byte_vector_sound bytes)
    (λ p hp. sound_need (is_utf8 p.0) (λ e. sound_ok p (hp, IsUtf8-from_is_utf8 p.0 e))) never

-- ---- types

type_of_sound : (b : ℕ) (bs : List ℕ) → Sound (λ x. IsValType (b ∷ bs) x.0 x.1) ⊥ (val_type_of b bs)
unfolding val_type_of
type_of_sound b bs = sound_if (eqb b (type_byte type.I32))
    (λ e. sound_ok (type.I32, bs) (ap (λ (x : ℕ). x ∷ bs) (eqb-true b (type_byte type.I32) e)))
    (λ _. sound_need (eqb b (type_byte type.I64))
    (λ e. sound_ok (type.I64, bs) (ap (λ (x : ℕ). x ∷ bs) (eqb-true b (type_byte type.I64) e))))

pub type_sound : (bytes : List ℕ) → Sound (λ x. IsValType bytes x.0 x.1) ⊥ (read_val_type bytes)
unfolding read_val_type
type_sound bytes = sound_then (byte_sound bytes) (λ b hb. rw hb (type_of_sound b.0 b.1)) never

pub func_type_sound :
    (bytes : List ℕ)
    → Sound (λ x. IsFuncType bytes x.0 x.1 × TypeWithin x.0) (ResultsOver bytes) (read_func_type true bytes)
unfolding read_func_type
func_type_sound bytes =
    sound_need (begins_with func_type_byte bytes)
    (λ e. sound_then (vector_sound IsValType read_val_type type_sound (drop 1 bytes)) (λ ps hps.
    sound_then (bounded_sound max_results 0 IsValType read_val_type type_sound ps.1) (λ rs hrs.
    sound_ok (record { params = ps.0; results = rs.0 }, rs.1)
    ((drop 1 bytes, ps.1, begins_is func_type_byte bytes e, hps, hrs.0), omega (arith, hrs.1)))
    (λ q. (drop 1 bytes, ps.0, ps.1, begins_is func_type_byte bytes e, hps, q))) never)

index_sound : (bytes : List ℕ) → Sound (λ x. IsBlockType bytes x.0 x.1) ⊥ (read_block_index bytes)
unfolding read_block_index
index_sound bytes = sound_then (signed_sound 33 bytes)
    (λ n hn. sound_need (ltb n.0 (2 ^ 32)) (λ e. sound_ok (Index n.0, n.1) (hn, ltb-true n.0 (2 ^ 32) e))) never

pub block_type_sound : (bytes : List ℕ) → Sound (λ x. IsBlockType bytes x.0 x.1) ⊥ (read_block_type bytes)
unfolding read_block_type
block_type_sound bytes = sound_if (begins_with empty_byte bytes)
    (λ e. sound_ok (Empty, drop 1 bytes) (begins_is empty_byte bytes e))
    (λ _. sound_if (begins_with (type_byte type.I32) bytes)
    (λ e. sound_ok (One type.I32, drop 1 bytes) (begins_is (type_byte type.I32) bytes e))
    (λ _. sound_if (begins_with (type_byte type.I64) bytes)
    (λ e. sound_ok (One type.I64, drop 1 bytes) (begins_is (type_byte type.I64) bytes e))
    (λ _. index_sound bytes)))

min_sound :
    (most : ℕ) (bytes : List ℕ)
    → Sound (λ x. IsU32 bytes x.0 x.1 × (x.0 ≤ most)) (NumberOver most 0 bytes) (read_min true most bytes)
unfolding read_min
min_sound most bytes = sound_then (u32_sound bytes) (λ n hn. sound_if (ltb most n.0)
    (λ over. sound_over (n.0, n.1, hn, omega (arith, ltb-true most n.0 over)))
    (λ under. sound_ok n (hn, ltb-false most n.0 under))) never

pub limits_sound :
    (most : ℕ) (bytes : List ℕ)
    → Sound (λ x. IsLimits bytes x.0 x.1 × MinWithin most x.0) (LimitsOver most bytes) (read_limits true most bytes)
unfolding read_limits
limits_sound most bytes = sound_if (begins_with min_byte bytes)
    (λ e. sound_then (min_sound most (drop 1 bytes))
    (λ n hn. sound_ok (record { min = n.0; max = None }, n.1)
    ((drop 1 bytes, begins_is min_byte bytes e, hn.0), hn.1))
    (λ q. (min_byte, drop 1 bytes, begins_is min_byte bytes e, inl refl, q)))
    (λ _. sound_then (skip_sound min_max_byte bytes)
    (λ from hf. sound_then (min_sound most from) (λ n hn. sound_then (u32_sound n.1) (λ m hm.
    sound_ok (record { min = n.0; max = Some m.0 }, m.1) ((from, n.1, hf, hn.0, hm), hn.1)) never)
    (λ q. (min_max_byte, from, hf, inr refl, q))) never)
