-- Labels that are known to take the same types. The outermost label comes first.
use Rattle.std.specs.Prelude.{◌≡◌, ℕ, ◌≤◌, Bool, List, Some, map, slice_get}
use Rattle.wasm_ast.specs.declared.values.ValType.{ValType}
use Rattle.validator.specs.declared.labels.Label.{Label}
use Rattle.wasm_ast.specs.Types.{are_same_types}

abbrev pub taken_by : List Label → List (List ValType)
taken_by ls = map (λ (l : Label). l.types) ls

-- each label takes the types of the one that it names, which is itself or one outside it
abbrev pub AreAlike : List Label → Type 0
AreAlike ls =
    (k : ℕ) (l : Label) → slice_get ls k ≡ Some l
    → (l.alike ≤ k) × (m : Label) × (slice_get ls l.alike ≡ Some m) × (m.types ≡ l.types)

-- whether the labels with these numbers take the same types
abbrev pub HaveSameTypes : List Label → (k other : ℕ) → Bool → Type 0
HaveSameTypes ls k other same =
    (ts us : List ValType) → slice_get (taken_by ls) k ≡ Some ts
    → slice_get (taken_by ls) other ≡ Some us → same ≡ are_same_types us ts
