-- What a request to the store may be answered.
use Rattle.std.specs.Prelude.{◌≡◌, ◌⊎◌, Some, None, Result, Ok, Err}
use Rattle.wasm_ast.specs.declared.refusal.Refusal.{Refusal}
use Rattle.wasm_ast.specs.declared.refusal.Refusal.TheVariants as refusal
use Rattle.content_leases.specs.StoreState.{StoreState}
use Rattle.content_leases.specs.Refusals.{Refusals, first_refusal}

-- Accepted with this effect, if no condition of its refusals holds; else refused with the first whose
-- condition holds, and the store stays. It also stays if memory ran out.
abbrev pub IsAnswered : {X : Type 0} → Refusals → (Effect : X → Type 0) → Result X Refusal
    → (s s' : StoreState) → Type 0
IsAnswered refusals Effect (Ok x) s s' = (first_refusal refusals ≡ None) × Effect x
IsAnswered refusals Effect (Err e) s s' =
    (s' ≡ s) × ((e ≡ refusal.NoMemory) ⊎ (first_refusal refusals ≡ Some e))
