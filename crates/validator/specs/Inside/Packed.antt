-- Long lists of types, with eight types in a byte.
use Rattle.std.specs.Prelude.{◌≡◌, ℕ, ◌+◌, ◌*◌, ◌≤◌, List, [], ◌∷◌, All, length, take, drop, Some, slice_get}
use Rattle.wasm_ast.specs.declared.values.ValType.{ValType}
use Rattle.wasm_ast.specs.declared.values.ValType.TheVariants.{I32, I64}
use Rattle.wasm_ast.specs.declared.values.FuncType.{FuncType}
use Rattle.validator.specs.declared.packed.PackedParams.{PackedParams}

abbrev pub bit : ValType → ℕ
bit I32 = 0
bit I64 = 1

-- a bit for each type, that of the first one lowest
abbrev pub packed : List ValType → ℕ
packed [] = 0
packed (t ∷ ts) = bit t + 2 * packed ts

-- the bytes are of the list's types, eight in each, from the first type on; where there are no eight
-- types left, a byte says nothing
abbrev pub IsRow : (bytes : List ℕ) → List ValType → Type 0
IsRow [] ts = Unit {0}
IsRow (b ∷ bytes) ts = (8 ≤ length ts → b ≡ packed (take 8 ts)) × IsRow bytes (drop 8 ts)

-- rows from the first type on, from the second one on, and so on
abbrev pub AreRows : (rows : List (List ℕ)) → List ValType → Type 0
AreRows [] ts = Unit {0}
AreRows (row ∷ rows) ts = IsRow row ts × AreRows rows (drop 1 ts)

-- they are of the parameters of one of these types
abbrev pub AreOfType : List FuncType → PackedParams → Type 0
AreOfType types p = (t : FuncType) × (slice_get types p.of ≡ Some t) × AreRows p.rows.items t.params

abbrev pub AreOfTypes : List FuncType → List PackedParams → Type 0
AreOfTypes types ps = All (AreOfType types) ps
