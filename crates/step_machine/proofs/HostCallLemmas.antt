-- What tests of types say.
use Rattle.std.proofs.Common.{◌≡◌, List, [], ◌∷◌, Bool, true, false, ◌&&◌, true≢false, Option, Some, None, refl, sym}
use Rattle.wasm_ast.specs.declared.values.FuncType.{FuncType}
use Rattle.wasm_ast.specs.Types.{are_same_types}
use Rattle.wasm_ast.proofs.SameTypes.{same_types}
use Rattle.flat_code.specs.TypeClasses.{is_of_type}

pub both : (a b : Bool) → (a && b) ≡ true → (a ≡ true) × (b ≡ true)
both true b h = (refl, h)
both false b h = absurd (true≢false (sym h))

-- a type of this form is there
pub of_type :
    (t : FuncType) (o : Option FuncType) → is_of_type t o ≡ true
    → (u : FuncType) × (o ≡ Some u) × (u.params ≡ t.params) × (u.results ≡ t.results)
of_type t None h = absurd (true≢false (sym h))
of_type t (Some u) h =
    let b = both (are_same_types t.params u.params) (are_same_types t.results u.results) h in
    (u, refl, sym (same_types t.params u.params b.0), sym (same_types t.results u.results b.1))
