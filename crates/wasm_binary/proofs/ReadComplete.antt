-- A reader is complete: what bytes encode it answers, unless a limit is passed.
use Rattle.std.proofs.Common.{◌≡◌, ℕ, ◌+◌, ◌-◌, ◌*◌, ◌^◌, ◌<◌, ◌≤◌, Bool, true, false, cond, ltb, eqb, List, [], ◌∷◌, ◌++◌, length, Result, Ok, Err, Option, Some, None, refl, sym, ap, subst, arith, inl, inr}
use Rattle.std.specs.Prelude.{◌&&◌}
use Rattle.std.specs.List.{AllByRecursion}
use Rattle.std.proofs.lemmas.Bool.{lt-ltb, le-ltb, eq-eqb, eqb-true}
use Rattle.std.proofs.lemmas.List.{take_at, drop_at, length-append}
use Rattle.std.proofs.lemmas.Str.{is_utf8-from_IsUtf8}
use Rattle.wasm_ast.specs.declared.values.ValType.{ValType}
use Rattle.wasm_ast.specs.declared.values.ValType.TheVariants as type
use Rattle.wasm_ast.specs.declared.values.FuncType.{FuncType}
use Rattle.wasm_ast.specs.declared.instr.BlockType.{BlockType}
use Rattle.wasm_ast.specs.declared.instr.BlockType.TheVariants.{Empty, One, Index}
use Rattle.wasm_ast.specs.declared.module.Limits.{Limits}
use Rattle.wasm_ast.specs.Limits.{max_results}
use Rattle.wasm_ast.proofs.LimitLemmas.{TypeWithin, MinWithin}
use Rattle.wasm_binary.specs.declared.fault.Fault.{Fault}
use Rattle.wasm_binary.specs.declared.fault.Fault.TheVariants.{Bad, Over}
use Rattle.wasm_binary.specs.Numbers.{IsUnsigned, IsLastSigned, IsSigned, IsU32}
use Rattle.wasm_binary.specs.Opcodes.{type_byte, func_type_byte, empty_byte, min_byte, min_max_byte}
use Rattle.wasm_binary.specs.Grammar.{Form, AreItems, IsVector, IsSized, AreBytes, IsName, IsValType, IsFuncType, IsBlockType, AreSizes, IsLimits}
use Rattle.wasm_binary.specs.Inside.Reading.{◌>>=◌, Read, need, read_byte, begins_with, skip_byte, read_unsigned, read_last_unsigned, read_signed, read_last_signed, read_u32, read_bytes, skip_exact, read_sized, read_items, read_vector, read_bounded, read_byte_vector, read_name, val_type_of, read_val_type, read_func_type, read_block_index, read_block_type, read_min, read_limits}

abbrev pub CompleteAnswer : {X : Type 0} → Type 0 → X → Result X Fault → Type 0
CompleteAnswer W x (Ok y) = y ≡ x
CompleteAnswer W x (Err Bad) = ⊥
CompleteAnswer W x (Err Over) = W → ⊥

-- x is read, or a limit is passed, and then W does not hold
pub record Complete {X : Type 0} (W : Type 0) (x : X) (r : Result X Fault) : Type 0 where
  pub complete : CompleteAnswer W x r

pub complete_ok : {X : Type 0} {W : Type 0} {x y : X} → y ≡ x → Complete W x (Ok y)
complete_ok e = record { complete = e }

pub complete_then :
    {A B : Type 0} {W W' : Type 0} {a : A} {y : B} {r : Result A Fault} (f : A → Result B Fault) → Complete W a r
    → Complete W' y (f a) → (W' → W) → Complete W' y (r >>= f)
complete_then {W' = W'} {y = y} {r = Ok z} f h k o = subst (λ a. Complete W' y (f a)) (sym h.complete) k
complete_then {r = Err Bad} f h k o = absurd h.complete
complete_then {r = Err Over} f h k o = record { complete = λ w. h.complete (o w) }

pub complete_need :
    {X : Type 0} {W : Type 0} {x : X} {r : Result X Fault} {b : Bool} → b ≡ true → Complete W x r
    → Complete W x (need b Bad r)
complete_need {b = true} e h = h
complete_need {b = false} e h = absurd cc

pub complete_first :
    {X : Type 0} {W : Type 0} {x : X} {r : Result X Fault} (t : Result X Fault) {b : Bool} → b ≡ true → Complete W x r
    → Complete W x (cond b r t)
complete_first t {b = true} e h = h
complete_first t {b = false} e h = absurd cc

pub complete_second :
    {X : Type 0} {W : Type 0} {x : X} (r : Result X Fault) {t : Result X Fault} {b : Bool} → b ≡ false → Complete W x t
    → Complete W x (cond b r t)
complete_second r {b = true} e h = absurd cc
complete_second r {b = false} e h = h

-- a limit that is not passed where W holds
pub complete_within :
    {X : Type 0} {W : Type 0} {x : X} {r : Result X Fault} {b : Bool} → (W → b ≡ false) → Complete W x r
    → Complete W x (cond b (Err Over) r)
complete_within {b = true} e h = record { complete = λ w. let f = e w in absurd cc }
complete_within {b = false} e h = h

pub complete_weaker :
    {X : Type 0} {W W' : Type 0} {x : X} {r : Result X Fault} → Complete W x r → (W' → W) → Complete W' x r
complete_weaker {r = Ok y} h k = complete_ok h.complete
complete_weaker {r = Err Bad} h k = absurd h.complete
complete_weaker {r = Err Over} h k = record { complete = λ w. h.complete (k w) }

pub false_by : (b : Bool) → (b ≡ true → ⊥) → b ≡ false
false_by true h = absurd (h refl)
false_by false h = refl

pub differ : (a b : ℕ) → b < a → eqb a b ≡ false
differ a b lt = false_by (eqb a b) (λ e. let k = eqb-true a b e in omega arith)

-- a test of a limit that is not passed
pub unlimited : (limited : Bool) (most n : ℕ) → (limited ≡ true → n ≤ most) → (limited && ltb most n) ≡ false
unlimited true most n h = le-ltb most n (h refl)
unlimited false most n h = refl

abbrev pub Always : Type 0
Always = Unit {0}

pub always : {W : Type 0} → W → Always
always w = tt

both : {a b : Bool} → a ≡ true → b ≡ true → (a && b) ≡ true
both p q = rw (p, q) refl

-- ---- bytes and numbers

pub begins_cons : (b : ℕ) (bs : List ℕ) → begins_with b (b ∷ bs) ≡ true
unfolding begins_with
begins_cons b bs = eq-eqb b b refl

pub skip_complete : (b : ℕ) (rest : List ℕ) → Complete Always rest (skip_byte b (b ∷ rest))
unfolding skip_byte
skip_complete b rest = complete_need (begins_cons b rest) (complete_ok refl)

unsigned_complete :
    (bits : ℕ) (bytes : List ℕ) (n : ℕ) (rest : List ℕ) → IsUnsigned bits bytes n rest
    → Complete Always (n, rest) (read_unsigned bits bytes)
unfolding read_unsigned read_last_unsigned
unsigned_complete bits [] n rest h = absurd h
unsigned_complete bits (b ∷ bs) n rest (inl h) =
    complete_first _ (lt-ltb b 128 h.0)
    (complete_then _ (complete_need (lt-ltb b (2 ^ bits) h.1.0) (complete_ok refl))
    (complete_ok (λ i. (sym h.1.1 i, sym h.2 i))) always)
unsigned_complete bits (b ∷ bs) n rest (inr h) =
    complete_second _ (le-ltb b 128 h.0)
    (complete_need (both (lt-ltb b 256 h.1) (lt-ltb 7 bits h.2))
    (complete_then _ (unsigned_complete (bits - 7) bs h.3 rest h.4)
    (complete_ok (λ i. (sym h.5 i, rest))) always))

last_signed_complete : (bits b n : ℕ) → b < 128 → IsLastSigned bits b n → Complete Always n (read_last_signed bits b)
unfolding read_last_signed
last_signed_complete bits b n lt (inl h) =
    complete_first _ (lt-ltb b 64 h.0) (complete_need (lt-ltb (2 * b) (2 ^ bits) h.1) (complete_ok (sym h.2)))
last_signed_complete bits b n lt (inr h) =
    complete_second _ (le-ltb b 64 h.0)
    (complete_need (lt-ltb 255 (2 * b + 2 ^ bits) (omega (arith, h.1)))
    (complete_ok (omega (arith, h.0, h.1, h.2))))

pub signed_complete :
    (bits : ℕ) (bytes : List ℕ) (n : ℕ) (rest : List ℕ) → IsSigned bits bytes n rest
    → Complete Always (n, rest) (read_signed bits bytes)
unfolding read_signed
signed_complete bits [] n rest h = absurd h
signed_complete bits (b ∷ bs) n rest (inl h) =
    complete_first _ (lt-ltb b 128 h.0)
    (complete_then _ (last_signed_complete bits b n h.0 h.1) (complete_ok (λ i. (n, sym h.2 i))) always)
signed_complete bits (b ∷ bs) n rest (inr h) =
    complete_second _ (le-ltb b 128 h.0)
    (complete_need (both (lt-ltb b 256 h.1) (lt-ltb 7 bits h.2))
    (complete_then _ (signed_complete (bits - 7) bs h.3 rest h.4)
    (complete_ok (λ i. (sym h.5 i, rest))) always))

pub u32_complete :
    (bytes : List ℕ) (n : ℕ) (rest : List ℕ) → IsU32 bytes n rest → Complete Always (n, rest) (read_u32 bytes)
unfolding read_u32
u32_complete bytes n rest h = unsigned_complete 32 bytes n rest h

-- an encoding takes a byte at least
pub unsigned_takes :
    (bits : ℕ) (bytes : List ℕ) (n : ℕ) (rest : List ℕ) → IsUnsigned bits bytes n rest → length rest < length bytes
unsigned_takes bits [] n rest h = absurd h
unsigned_takes bits (b ∷ bs) n rest (inl h) = omega (arith, ap length h.2)
unsigned_takes bits (b ∷ bs) n rest (inr h) = omega (arith, unsigned_takes (bits - 7) bs h.3 rest h.4)

pub signed_takes :
    (bits : ℕ) (bytes : List ℕ) (n : ℕ) (rest : List ℕ) → IsSigned bits bytes n rest → length rest < length bytes
signed_takes bits [] n rest h = absurd h
signed_takes bits (b ∷ bs) n rest (inl h) = omega (arith, ap length h.2)
signed_takes bits (b ∷ bs) n rest (inr h) = omega (arith, signed_takes (bits - 7) bs h.3 rest h.4)

pub sized_takes :
    {X : Type 0} (IsX : Form X) (bytes : List ℕ) (x : X) (rest : List ℕ) → IsSized IsX bytes x rest
    → length rest < length bytes
sized_takes IsX bytes x rest h =
    omega (arith, unsigned_takes 32 bytes (length h.0) h.1 h.2, ap length h.3, length-append h.0 rest)

-- ---- parts

part_complete : (part rest : List ℕ) → Complete Always (part, rest) (read_bytes (length part) (part ++ rest))
unfolding read_bytes
part_complete part rest =
    complete_second _ (le-ltb (length (part ++ rest)) (length part) (omega (arith, length-append part rest)))
    (complete_ok (λ i. (take_at part rest (length part) refl i, drop_at part rest (length part) refl i)))

exact_complete : (part rest : List ℕ) → Complete Always rest (skip_exact (length part) [] (part ++ rest))
unfolding skip_exact
exact_complete part rest =
    complete_need refl
    (complete_second _ (le-ltb (length (part ++ rest)) (length part) (omega (arith, length-append part rest)))
    (complete_ok (drop_at part rest (length part) refl)))

pub sized_complete :
    {X : Type 0} (IsX : Form X) (W : Type 0) (read : List ℕ → Read X) (x : X)
    → ((part : List ℕ) → IsX part x [] → Complete W (x, []) (read part))
    → (bytes rest : List ℕ) → IsSized IsX bytes x rest → Complete W (x, rest) (read_sized read bytes)
unfolding read_sized
sized_complete IsX W read x each bytes rest h =
    complete_then _ (u32_complete bytes (length h.0) h.1 h.2)
    (rw (h.3, take_at h.0 rest (length h.0) refl)
    (complete_then _ (each h.0 h.4) (complete_then _ (exact_complete h.0 rest) (complete_ok refl) always) (λ w. w)))
    always

pub items_complete :
    {X : Type 0} (IsX : Form X) (read : List ℕ → Read X)
    → ((x : X) (part rest : List ℕ) → IsX part x rest → Complete Always (x, rest) (read part))
    → (xs : List X) (bytes rest : List ℕ) → AreItems IsX bytes xs rest
    → Complete Always (xs, rest) (read_items read (length xs) bytes)
unfolding read_items
items_complete IsX read each [] bytes rest h = complete_ok (λ i. ([], sym h i))
items_complete IsX read each (x ∷ xs) bytes rest h =
    complete_then _ (each x bytes h.0 h.1)
    (complete_then _ (items_complete IsX read each xs h.0 rest h.2) (complete_ok refl) always) always

pub vector_complete :
    {X : Type 0} (IsX : Form X) (read : List ℕ → Read X)
    → ((x : X) (part rest : List ℕ) → IsX part x rest → Complete Always (x, rest) (read part))
    → (xs : List X) (bytes rest : List ℕ) → IsVector IsX bytes xs rest
    → Complete Always (xs, rest) (read_vector read bytes)
unfolding read_vector
vector_complete IsX read each xs bytes rest h =
    complete_then _ (u32_complete bytes (length xs) h.0 h.1) (items_complete IsX read each xs h.0 rest h.2) always

pub bounded_complete :
    {X : Type 0} (limited : Bool) (most before : ℕ) (IsX : Form X) (read : List ℕ → Read X)
    → ((x : X) (part rest : List ℕ) → IsX part x rest → Complete Always (x, rest) (read part))
    → (xs : List X) (bytes rest : List ℕ) → IsVector IsX bytes xs rest
    → Complete (limited ≡ true → before + length xs ≤ most) (xs, rest) (read_bounded limited most before read bytes)
unfolding read_bounded
bounded_complete limited most before IsX read each xs bytes rest h =
    complete_then _ (u32_complete bytes (length xs) h.0 h.1)
    (complete_within (λ w. unlimited limited most (before + length xs) w)
    (complete_weaker (items_complete IsX read each xs h.0 rest h.2) always)) always

-- items of which E holds where limits are not passed
pub items_within :
    {X : Type 0} (limited : Bool) (IsX : Form X) (E : X → Type 0) (read : List ℕ → Read X)
    → ((x : X) (part rest : List ℕ) → IsX part x rest → Complete (limited ≡ true → E x) (x, rest) (read part))
    → (xs : List X) (bytes rest : List ℕ) → AreItems IsX bytes xs rest
    → Complete (limited ≡ true → AllByRecursion E xs) (xs, rest) (read_items read (length xs) bytes)
unfolding read_items
items_within limited IsX E read each [] bytes rest h = complete_ok (λ i. ([], sym h i))
items_within limited IsX E read each (x ∷ xs) bytes rest h =
    complete_then _ (each x bytes h.0 h.1)
    (complete_then _ (items_within limited IsX E read each xs h.0 rest h.2) (complete_ok refl) (λ w l. (w l).1))
    (λ w l. (w l).0)

pub vector_within :
    {X : Type 0} (limited : Bool) (IsX : Form X) (E : X → Type 0) (read : List ℕ → Read X)
    → ((x : X) (part rest : List ℕ) → IsX part x rest → Complete (limited ≡ true → E x) (x, rest) (read part))
    → (xs : List X) (bytes rest : List ℕ) → IsVector IsX bytes xs rest
    → Complete (limited ≡ true → AllByRecursion E xs) (xs, rest) (read_vector read bytes)
unfolding read_vector
vector_within limited IsX E read each xs bytes rest h =
    complete_then _ (u32_complete bytes (length xs) h.0 h.1)
    (items_within limited IsX E read each xs h.0 rest h.2) always

pub byte_vector_complete :
    (xs bytes rest : List ℕ) → AreBytes bytes xs rest → Complete Always (xs, rest) (read_byte_vector bytes)
unfolding read_byte_vector
byte_vector_complete xs bytes rest h =
    complete_then _ (u32_complete bytes (length xs) h.0 h.1) (rw h.2 (part_complete xs rest)) always

pub name_complete : (name bytes rest : List ℕ) → IsName bytes name rest → Complete Always (name, rest) (read_name bytes)
unfolding read_name
name_complete name bytes rest h =
    complete_then _ (byte_vector_complete name bytes rest h.0)
    (complete_need (is_utf8-from_IsUtf8 name h.1) (complete_ok refl)) always

-- ---- types

pub type_complete :
    (t : ValType) (bytes rest : List ℕ) → IsValType bytes t rest → Complete Always (t, rest) (read_val_type bytes)
unfolding read_val_type read_byte val_type_of
type_complete type.I32 bytes rest h = rw h (complete_ok refl)
type_complete type.I64 bytes rest h = rw h (complete_ok refl)

pub func_type_complete :
    (limited : Bool) (t : FuncType) (bytes rest : List ℕ) → IsFuncType bytes t rest
    → Complete (limited ≡ true → TypeWithin t) (t, rest) (read_func_type limited bytes)
unfolding read_func_type
func_type_complete limited t bytes rest h = rw h.2 (complete_need (begins_cons func_type_byte h.0)
    (complete_then _ (vector_complete IsValType read_val_type type_complete t.params h.0 h.1 h.3)
    (complete_then _
    (bounded_complete limited max_results 0 IsValType read_val_type type_complete t.results h.1 rest h.4)
    (complete_ok refl) (λ w l. let few = w l in omega arith)) always))

-- whether these bytes begin so
begins_other : (b c : ℕ) (bytes rest : List ℕ) → bytes ≡ c ∷ rest → (c ≡ b → ⊥) → begins_with b bytes ≡ false
unfolding begins_with
begins_other b c bytes rest h differs = rw h (false_by (eqb c b) (λ e. differs (eqb-true c b e)))

-- a number of 33 bits that is not negative begins with no byte of a negative one
index_not : (c i : ℕ) (bs rest : List ℕ) → IsSigned 33 (c ∷ bs) i rest → i < 2 ^ 32 → 64 ≤ c → c < 128 → ⊥
index_not c i bs rest (inl (lt, inl h, e)) small ge le = absurd (omega (arith, h.0))
index_not c i bs rest (inl (lt, inr h, e)) small ge le = absurd (omega (arith, h.2))
index_not c i bs rest (inr h) small ge le = absurd (omega (arith, h.0))

index_begins :
    (b i : ℕ) (bytes rest : List ℕ) → IsBlockType bytes (Index i) rest → 64 ≤ b → b < 128
    → begins_with b bytes ≡ false
unfolding begins_with
index_begins b i [] rest h ge lt = refl
index_begins b i (c ∷ cs) rest h ge lt =
    false_by (eqb c b) (λ e. let same : c ≡ b = eqb-true c b e in
    index_not c i cs rest h.0 h.1 (omega arith) (omega arith))

index_complete :
    (i : ℕ) (bytes rest : List ℕ) → IsBlockType bytes (Index i) rest
    → Complete Always (Index i, rest) (read_block_index bytes)
unfolding read_block_index
index_complete i bytes rest h =
    complete_then _ (signed_complete 33 bytes i rest h.0)
    (complete_need (lt-ltb i (2 ^ 32) h.1) (complete_ok refl)) always

pub block_type_complete :
    (t : BlockType) (bytes rest : List ℕ) → IsBlockType bytes t rest → Complete Always (t, rest) (read_block_type bytes)
unfolding read_block_type
block_type_complete Empty bytes rest h = rw h (complete_first _ (begins_cons empty_byte rest) (complete_ok refl))
block_type_complete (One type.I32) bytes rest h =
    complete_second _ (begins_other empty_byte (type_byte type.I32) bytes rest h (λ e. absurd (omega (arith, e))))
    (rw h (complete_first _ (begins_cons (type_byte type.I32) rest) (complete_ok refl)))
block_type_complete (One type.I64) bytes rest h =
    complete_second _ (begins_other empty_byte (type_byte type.I64) bytes rest h (λ e. absurd (omega (arith, e))))
    (complete_second _
    (begins_other (type_byte type.I32) (type_byte type.I64) bytes rest h (λ e. absurd (omega (arith, e))))
    (rw h (complete_first _ (begins_cons (type_byte type.I64) rest) (complete_ok refl))))
block_type_complete (Index i) bytes rest h =
    complete_second _ (index_begins empty_byte i bytes rest h (omega arith) (omega arith))
    (complete_second _ (index_begins (type_byte type.I32) i bytes rest h (omega arith) (omega arith))
    (complete_second _ (index_begins (type_byte type.I64) i bytes rest h (omega arith) (omega arith))
    (index_complete i bytes rest h)))

pub block_type_takes : (t : BlockType) (bytes rest : List ℕ) → IsBlockType bytes t rest → length rest < length bytes
block_type_takes Empty bytes rest h = omega (arith, ap length h)
block_type_takes (One t) bytes rest h = omega (arith, ap length h)
block_type_takes (Index i) bytes rest h = signed_takes 33 bytes i rest h.0

min_complete :
    (limited : Bool) (most n : ℕ) (bytes rest : List ℕ) → IsU32 bytes n rest
    → Complete (limited ≡ true → n ≤ most) (n, rest) (read_min limited most bytes)
unfolding read_min
min_complete limited most n bytes rest h =
    complete_then _ (u32_complete bytes n rest h)
    (complete_within (λ w. unlimited limited most n w) (complete_ok refl)) always

differ_byte : (rest : List ℕ) → begins_with min_byte (min_max_byte ∷ rest) ≡ false
unfolding begins_with
differ_byte rest = refl

sizes_complete :
    (limited : Bool) (most min : ℕ) (max : Option ℕ) (bytes rest : List ℕ) → AreSizes bytes min max rest
    → Complete {X = Limits × List ℕ} (limited ≡ true → min ≤ most) (record { min = min; max = max }, rest)
    (read_limits limited most bytes)
unfolding read_limits
sizes_complete limited most min None bytes rest h =
    rw h.1
    (complete_first _ (begins_cons min_byte h.0)
    (complete_then _ (min_complete limited most min h.0 rest h.2) (complete_ok refl) (λ w. w)))
sizes_complete limited most min (Some max) bytes rest h =
    rw h.2
    (complete_second _ (differ_byte h.0)
    (complete_then _ (skip_complete min_max_byte h.0)
    (complete_then _ (min_complete limited most min h.0 h.1 h.3)
    (complete_then _ (u32_complete h.1 max rest h.4) (complete_ok refl) always) (λ w. w)) always))

pub limits_complete :
    (limited : Bool) (most : ℕ) (l : Limits) (bytes rest : List ℕ) → IsLimits bytes l rest
    → Complete (limited ≡ true → MinWithin most l) (l, rest) (read_limits limited most bytes)
limits_complete limited most l bytes rest h = sizes_complete limited most l.min l.max bytes rest h
