-- Faults that are named are faults, and a module without one is valid.
use Rattle.std.proofs.Common.{◌≡◌, ◌≤◌, ◌<◌, ℕ, zero, suc, ◌-◌, List, [], ◌∷◌, length, get_or, true, false, true≢false, Result, Err, Option, Some, None, refl, sym, ap, subst, ◌∙◌, arith}
use Rattle.std.specs.Prelude.{slice_get}
use Rattle.wasm_ast.specs.declared.place.Place.{Place}
use Rattle.wasm_ast.specs.declared.refusal.Refusal.{Refusal}
use Rattle.wasm_ast.specs.declared.refusal.Refusal.TheVariants as refusal
use Rattle.wasm_ast.specs.declared.values.FuncType.{FuncType}
use Rattle.wasm_ast.specs.declared.module.Func.{Func}
use Rattle.wasm_ast.specs.declared.module.Module.{Module}
use Rattle.wasm_ast.specs.Syntax.{ops_count}
use Rattle.validator.specs.Typing.{ValidModule, ValidBody}
use Rattle.validator.specs.PlaceTypes.{IsOwn}
use Rattle.validator.specs.Faults.{NamesFault}
use Rattle.validator.specs.Inside.CheckErrors.{IsAt}
use Rattle.validator.specs.Inside.FunctionContext.{passes_func}
use Rattle.validator.specs.declared.check_error.BodyError.{BodyError}
use Rattle.validator.specs.declared.check_error.BodyError.TheVariants.{Invalid}
use Rattle.validator.proofs.ModuleExact.{func_passes}
use Rattle.validator.proofs.PlacesOfModules.{own_valid}
use Rattle.validator.proofs.Decided.{is_valid_func, func_sound}

pub fault_not_valid : (m : Module) (at : Option Place) → NamesFault m at → ValidModule m → ⊥
fault_not_valid m None fault valid = fault valid.outside
fault_not_valid m (Some p) fault valid = fault.2 (own_valid m p.func fault.0 valid fault.1)

abbrev refused : Refusal → Result (Unit {0}) Refusal
refused e = Err e

pub err_refusal : (e : Refusal) (at : Option Place) → refused e ≡ refused (refusal.Invalid at) → e ≡ refusal.Invalid at
err_refusal e at h = cc

pub get_there : {X : Type 0} (xs : List X) (k : ℕ) (d : X) → k < length xs → slice_get xs k ≡ Some (get_or xs k d)
get_there [] k d h = absurd (omega arith)
get_there (x ∷ xs) zero d h = refl
get_there (x ∷ xs) (suc k) d h = get_there xs k d (omega arith)

-- the error of the body of a module's own function names a fault
pub own_fault :
    (m : Module) (own : ℕ) (f : Func) (error : BodyError) (at : Option Place) → slice_get m.funcs own ≡ Some f
    → IsAt m own error at → ((k : ℕ) → error ≡ Invalid k → ValidBody m f → ⊥)
    → ((k : ℕ) → error ≡ Invalid k → k ≤ ops_count f.body) → NamesFault m at
own_fault m own f error None is at fails fits = absurd at
own_fault m own f error (Some p) is at fails fits =
    let back : p.func - length m.imports ≡ own = omega (arith, at.0) in
    (f, (omega (arith, at.0), ap (slice_get m.funcs) back ∙ is), fails p.instr at.1, fits p.instr at.1)

-- a body whose check fails, at a place of it
pub body_fault : (m : Module) (p : Place) (f : Func) (t : FuncType) → IsOwn m p.func f
    → slice_get m.types f.type_index ≡ Some t → passes_func m t f ≡ false → p.instr ≤ ops_count f.body
    → NamesFault m (Some p)
body_fault m p f t own is fails fits =
    (f, own, λ valid. true≢false (sym (func_passes m t f is valid) ∙ fails), fits)

-- no place of a function is named whose check passes, or that lies past its end
pub no_fault : (m : Module) (p : Place) (f : Func) → IsOwn m p.func f → is_valid_func m f ≡ true
    → NamesFault m (Some p) → ⊥
no_fault m p f own passes fault =
    let some : Some fault.0 ≡ Some f = sym fault.1.1 ∙ own.1 in
    let same : fault.0 ≡ f = cc in
    fault.2 (subst (ValidBody m) (sym same) (func_sound m f passes))

pub not_past : (m : Module) (p : Place) (f : Func) → IsOwn m p.func f → (p.instr ≤ ops_count f.body → ⊥)
    → NamesFault m (Some p) → ⊥
not_past m p f own past fault =
    let some : Some fault.0 ≡ Some f = sym fault.1.1 ∙ own.1 in
    let same : fault.0 ≡ f = cc in
    past (subst (λ (g : Func). p.instr ≤ ops_count g.body) same fault.3)
