-- Numbers of values, with the types of these, are these values.
use Rattle.std.proofs.Common.{◌≡◌, ℕ, zero, suc, ◌+◌, List, [], ◌∷◌, ◌++◌, length, map, take, drop, min, Some, refl, ap, subst, ◌∙◌, arith}
use Rattle.std.specs.Prelude.{slice_get, All}
use Rattle.std.proofs.lemmas.List.{take_more}
use Rattle.std.proofs.lemmas.Option.{slice_get_within, get_or_from_slice_get}
use Rattle.wasm_ast.specs.declared.values.ValType.{ValType}
use Rattle.wasm_ast.specs.declared.values.Value.{Value}
use Rattle.wasm_ast.specs.declared.values.Value.TheVariants.{I32, I64}
use Rattle.wasm_ast.specs.Types.{value_of, type_of}
use Rattle.wasm_ast.specs.Ranged.{RangedValue}
use Rattle.step_machine.specs.Frames.{number}
use Rattle.debugger.specs.Inside.Typed.{values_of}

value_is : (v : Value) → value_of (type_of v) (number v) ≡ v
value_is (I32 n) = refl
value_is (I64 n) = refl

-- of more values as many as there are types, and of more types as many as there are values
pub values_are : (vs : List Value) (ns : List ℕ) → values_of (map type_of vs) (map number vs ++ ns) ≡ vs
values_are [] ns = refl
values_are (v ∷ vs) ns = let rest = values_are vs ns in let one = value_is v in cc

pub operands_are : (vs : List Value) (ts : List ValType) → values_of (map type_of vs ++ ts) (map number vs) ≡ vs
operands_are [] [] = refl
operands_are [] (t ∷ ts) = refl
operands_are (v ∷ vs) ts = let rest = operands_are vs ts in let one = value_is v in cc

pub length_values : (ts : List ValType) (ns : List ℕ) → length (values_of ts ns) ≡ min (length ts) (length ns)
length_values [] ns = omega arith
length_values (t ∷ ts) [] = omega arith
length_values (t ∷ ts) (n ∷ ns) = let rest = length_values ts ns in omega arith

value_at : (ts : List ValType) (ns : List ℕ) (k : ℕ) (t : ValType) (n : ℕ) → slice_get ts k ≡ Some t
    → slice_get ns k ≡ Some n → slice_get (values_of ts ns) k ≡ Some (value_of t n)
value_at [] ns k t n h g = cc
value_at (t ∷ ts) [] k u n h g = cc
value_at (t ∷ ts) (n ∷ ns) zero u m h g = cc
value_at (t ∷ ts) (n ∷ ns) (suc k) u m h g = value_at ts ns k u m h g

-- one value more
pub take_value : (ts : List ValType) (ns : List ℕ) (k : ℕ) (t : ValType) (n : ℕ) → slice_get ts k ≡ Some t
    → slice_get ns k ≡ Some n → take (k + 1) (values_of ts ns) ≡ take k (values_of ts ns) ++ value_of t n ∷ []
take_value ts ns k t n h g =
    let vs = values_of ts ns in
    let v = value_of t n in
    let is = value_at ts ns k t n h g in
    take_more vs k v (slice_get_within vs k v is)
    ∙ ap (λ (x : Value). take k vs ++ x ∷ []) (get_or_from_slice_get vs k v v is)

pub ranged_at : (ts : List ValType) (ns : List ℕ) (k : ℕ) (t : ValType) (n : ℕ) → All RangedValue (values_of ts ns)
    → slice_get ts k ≡ Some t → slice_get ns k ≡ Some n → RangedValue (value_of t n)
ranged_at ts ns k t n all h g =
    let vs = values_of ts ns in
    let v = value_of t n in
    let is = value_at ts ns k t n h g in
    subst RangedValue (get_or_from_slice_get vs k v v is) (all k v (slice_get_within vs k v is))

pub get_drop :
    (ns : List ℕ) (m k j : ℕ) (n : ℕ) → j ≡ m + k → slice_get ns j ≡ Some n → slice_get (drop m ns) k ≡ Some n
get_drop ns zero k j n e h = let same : j ≡ k = omega arith in subst (λ (i : ℕ). slice_get ns i ≡ Some n) same h
get_drop [] (suc m) k j n e h = cc
get_drop (x ∷ xs) (suc m) k zero n e h = absurd (omega arith)
get_drop (x ∷ xs) (suc m) k (suc j) n e h = get_drop xs m k j n (omega arith) h
