-- Whether a module is valid, by computation.
use Rattle.std.proofs.Common.{◌≡◌, ◌≢◌, ℕ, Bool, true, false, true≢false, ◌&&◌, not, List, [], ◌∷◌, map, Option, Some, None, refl, sym, ap, ◌∙◌}
use Rattle.std.specs.Prelude.{slice_get, bytes_eq}
use Rattle.std.proofs.lemmas.Slice.Eq.{bytes_eq-Decides}
use Rattle.wasm_ast.specs.declared.values.FuncType.{FuncType}
use Rattle.wasm_ast.specs.declared.module.Export.{Export}
use Rattle.wasm_ast.specs.declared.module.Func.{Func}
use Rattle.wasm_ast.specs.declared.module.Module.{Module}
use Rattle.wasm_ast.specs.Limits.{are_all}
use Rattle.validator.specs.Typing.{ValidBody, AllDifferent, ValidModule}
use Rattle.validator.specs.Inside.FunctionContext.{passes_func}
use Rattle.validator.specs.Inside.ModuleTests.{declares_validly, defines_validly}
use Rattle.validator.proofs.StackMatching.{both}
use Rattle.validator.proofs.ModuleExact.{all_hold, hold_all, and_both, func_valid, untyped_valid, func_passes, outside_valid, outside_declares, outside_defines}

-- ---- functions

abbrev passes_as : Module → Func → Option FuncType → Bool
passes_as m f None = true
passes_as m f (Some t) = passes_func m t f

abbrev pub is_valid_func : Module → Func → Bool
is_valid_func m f = passes_as m f (slice_get m.types f.type_index)

pub func_sound : (m : Module) (f : Func) → is_valid_func m f ≡ true → ValidBody m f
func_sound m f h = of (slice_get m.types f.type_index) refl h
  where
    of : (o : Option FuncType) → slice_get m.types f.type_index ≡ o → passes_as m f o ≡ true → ValidBody m f
    of None is h = untyped_valid m f is
    of (Some t) is h = func_valid m t f is h

func_exact : (m : Module) (f : Func) → ValidBody m f → is_valid_func m f ≡ true
func_exact m f v = of (slice_get m.types f.type_index) refl
  where
    of : (o : Option FuncType) → slice_get m.types f.type_index ≡ o → passes_as m f o ≡ true
    of None is = refl
    of (Some t) is = func_passes m t f is v

-- ---- names

abbrev is_other : List ℕ → List ℕ → Bool
is_other x y = not (bytes_eq x y)

abbrev pub are_different : List (List ℕ) → Bool
are_different [] = true
are_different (x ∷ xs) = are_all (is_other x) xs && are_different xs

other_sound : (x y : List ℕ) → is_other x y ≡ true → x ≢ y
other_sound x y h e = true≢false (sym h ∙ ap not ((bytes_eq-Decides x y).1 e))

other_exact : (x y : List ℕ) → x ≢ y → is_other x y ≡ true
other_exact x y h = of (bytes_eq x y) refl
  where
    of : (b : Bool) → bytes_eq x y ≡ b → not b ≡ true
    of true e = absurd (h ((bytes_eq-Decides x y).0 e))
    of false e = refl

different_sound : (xs : List (List ℕ)) → are_different xs ≡ true → AllDifferent xs
different_sound [] h = tt
different_sound (x ∷ xs) h =
    let parts = both (are_all (is_other x) xs) (are_different xs) h in
    (all_hold (λ y. x ≢ y) (is_other x) (other_sound x) xs parts.0, different_sound xs parts.1)

different_exact : (xs : List (List ℕ)) → AllDifferent xs → are_different xs ≡ true
different_exact [] h = refl
different_exact (x ∷ xs) h =
    and_both (are_all (is_other x) xs) (are_different xs) (hold_all (λ y. x ≢ y) (is_other x) (other_exact x) xs h.0)
    (different_exact xs h.1)

-- ---- modules

abbrev names_of : Module → List (List ℕ)
names_of m = map (λ (e : Export). e.name) m.exports

abbrev pub is_valid : Module → Bool
is_valid m = declares_validly m && defines_validly m && are_different (names_of m) && are_all (is_valid_func m) m.funcs

pub valid_by : (m : Module) → is_valid m ≡ true → ValidModule m
valid_by m h =
    let three =
    both (declares_validly m && defines_validly m && are_different (names_of m))
    (are_all (is_valid_func m) m.funcs) h in
    let two = both (declares_validly m && defines_validly m) (are_different (names_of m)) three.0 in
    let one = both (declares_validly m) (defines_validly m) two.0 in
    record {
      outside = outside_valid m one.0 one.1 (different_sound (names_of m) two.1);
      bodies = all_hold (ValidBody m) (is_valid_func m) (func_sound m) m.funcs three.1;
    }

pub valid_only : (m : Module) → ValidModule m → is_valid m ≡ true
valid_only m v =
    and_both (declares_validly m && defines_validly m && are_different (names_of m)) (are_all (is_valid_func m) m.funcs)
    (and_both (declares_validly m && defines_validly m) (are_different (names_of m))
    (and_both (declares_validly m) (defines_validly m) (outside_declares m v.outside) (outside_defines m v.outside))
    (different_exact (names_of m) v.outside.names))
    (hold_all (ValidBody m) (is_valid_func m) (func_exact m) m.funcs v.bodies)

pub invalid_by : (m : Module) → is_valid m ≡ false → ValidModule m → ⊥
invalid_by m h v = true≢false (sym (valid_only m v) ∙ h)
