-- What a command answers where one of its parts was refused.
use Rattle.std.proofs.Common.{◌≡◌, ◌≢◌, ◌⊎◌, inl, inr, ℕ, List, Bool, true, false, Option, Result, Ok, Err, refl, sym, subst}
use Rattle.std.specs.Prelude.{IfOk, IfErr, OnOk, OnErr}
use Rattle.wasm_ast.specs.declared.module.Module.{Module}
use Rattle.wasm_ast.specs.declared.place.Place.{Place}
use Rattle.wasm_ast.specs.declared.refusal.Refusal.{Refusal}
use Rattle.wasm_ast.specs.declared.refusal.Refusal.TheVariants as refusal
use Rattle.wasm_binary.specs.Canonical.{FitsLimits}
use Rattle.file_commands.specs.declared.ran.Ran.{Ran}
use Rattle.file_commands.specs.Source.{IsSource, IsNoSource}
use Rattle.file_commands.specs.Ran.{refused}
use Rattle.file_commands.specs.Explained.{IsToldBy}
use Rattle.file_commands.specs.Assembled.{IsAssembled}
use Rattle.file_commands.specs.Assembled as assembled
use Rattle.file_commands.specs.Checked.{IsChecked}
use Rattle.file_commands.specs.Checked as checked
use Rattle.file_commands.specs.Inside.Written.{CannotAssemble, CannotCheck, IsTold}
use Rattle.file_commands.specs.Inside.Written as why

-- out of memory, or refused for this reason
abbrev pub Told : (Refusal → Type 0) → Refusal → Type 0
Told P e = (e ≡ refusal.NoMemory) ⊎ P e

pub handed_on :
    {W : Type 0} (P : Refusal → Type 0) (r : Result W Refusal) (e : Refusal) → r ≡ Err e → Told P e → IfErr r (Told P)
handed_on {W} P r e same h = subst (λ (q : Result W Refusal). IfErr q (Told P)) (sym same) h

pub not_assembled : (bytes : List ℕ) (e : Refusal) → Told (IsNoSource bytes) e → Told (CannotAssemble bytes) e
not_assembled bytes e (inl p) = inl p
not_assembled bytes e (inr h) = inr (why.CannotAssemble.no_module e h)

pub not_encoded :
    (bytes : List ℕ) (m : Module) (e : Refusal) → IsSource bytes m → (e ≡ refusal.Limit) ⊎ (e ≡ refusal.NoMemory)
    → (e ≡ refusal.Limit → FitsLimits m → ⊥) → Told (CannotAssemble bytes) e
not_encoded bytes m e source (inl p) limit =
    inr (subst (CannotAssemble bytes) (sym p) (why.CannotAssemble.too_long m source (limit p)))
not_encoded bytes m e source (inr p) limit = inl p

assembled_refused :
    (bytes : List ℕ) (e : Refusal) (r : Ran) → r ≡ refused e → e ≢ refusal.NoMemory → Told (CannotAssemble bytes) e
    → IsAssembled bytes r
assembled_refused bytes e r is told (inl p) = absurd (told p)
assembled_refused bytes e r is told (inr (why.CannotAssemble.no_module x h)) =
    subst (IsAssembled bytes) (sym is) (assembled.IsAssembled.no_module e h)
assembled_refused bytes e r is told (inr (why.CannotAssemble.too_long m source long)) =
    subst (IsAssembled bytes) (sym is) (assembled.IsAssembled.too_long m source long)

pub not_checked : (bytes : List ℕ) (e : Refusal) → Told (IsNoSource bytes) e → Told (CannotCheck bytes) e
not_checked bytes e (inl p) = inl p
not_checked bytes e (inr h) = inr (why.CannotCheck.no_module e h)

-- why a module is not validated
pub not_validated : {V : Type 0} (P : Refusal → Type 0) (r : Result V Refusal) (e : Refusal) → r ≡ Err e
    → OnErr r (((at : Option Place) × (r ≡ Err (refusal.Invalid at))) ⊎ (r ≡ Err refusal.NoMemory))
    → ((at : Option Place) → r ≡ Err (refusal.Invalid at) → P (refusal.Invalid at)) → Told P e
not_validated P (Ok v) e is why invalid = absurd cc
not_validated P (Err x) e is (inl (at, p)) invalid =
    let same : e ≡ refusal.Invalid at = cc in inr (subst P (sym same) (invalid at p))
not_validated P (Err x) e is (inr p) invalid = let same : e ≡ refusal.NoMemory = cc in inl same

checked_refused : (bytes : List ℕ) (list : Bool) (e : Refusal) (r : Ran) → r ≡ refused e → e ≢ refusal.NoMemory
    → Told (CannotCheck bytes) e → IsChecked bytes list r
checked_refused bytes list e r is told (inl p) = absurd (told p)
checked_refused bytes list e r is told (inr (why.CannotCheck.no_module x h)) =
    subst (IsChecked bytes list) (sym is) (checked.IsChecked.no_module e h)
checked_refused bytes list e r is told (inr (why.CannotCheck.invalid m at source fault)) =
    subst (IsChecked bytes list) (sym is) (checked.IsChecked.invalid m at source fault)

-- ---- with or without the line of a reason

pub told_plain : (Is : Ran → Type 0) (explain : Bool) (refuse : Refusal → Ran) (r : Ran) → Is r
    → IsToldBy explain refuse Is r
told_plain Is true refuse r is = inl is
told_plain Is false refuse r is = is

pub asm_told :
    (bytes : List ℕ) (e : Refusal) (explain : Bool) (r : Result Ran Refusal) → IfOk r (IsTold explain (refused e))
    → OnOk r (e ≢ refusal.NoMemory) → Told (CannotAssemble bytes) e
    → IfOk r (IsToldBy explain refused (IsAssembled bytes))
asm_told bytes e true (Ok x) is told h = inr (e, assembled_refused bytes e (refused e) refl told h, is)
asm_told bytes e false (Ok x) is told h = assembled_refused bytes e x is told h
asm_told bytes e explain (Err x) is told h = tt

pub check_told : (bytes : List ℕ) (list : Bool) (e : Refusal) (explain : Bool) (r : Result Ran Refusal)
    → IfOk r (IsTold explain (refused e)) → OnOk r (e ≢ refusal.NoMemory) → Told (CannotCheck bytes) e
    → IfOk r (IsToldBy explain refused (IsChecked bytes list))
check_told bytes list e true (Ok x) is told h = inr (e, checked_refused bytes list e (refused e) refl told h, is)
check_told bytes list e false (Ok x) is told h = checked_refused bytes list e x is told h
check_told bytes list e explain (Err x) is told h = tt
