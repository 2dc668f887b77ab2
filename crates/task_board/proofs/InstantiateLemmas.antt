-- Why no task can be created from bytes.
use Rattle.std.proofs.Common.{◌≡◌, ◌≢◌, ◌≤◌, ◌⊎◌, inl, inr, ℕ, List, length, Option, Result, Ok, Err, sym, subst, OnErr}
use Rattle.wasm_ast.specs.declared.module.Module.{Module}
use Rattle.wasm_ast.specs.declared.place.Place.{Place}
use Rattle.wasm_ast.specs.declared.refusal.Refusal.{Refusal}
use Rattle.wasm_ast.specs.declared.refusal.Refusal.TheVariants as refusal
use Rattle.wasm_ast.specs.Limits.{max_module_bytes, Within}
use Rattle.wasm_binary.specs.Grammar.{Spells}
use Rattle.wasm_binary.specs.Limits.{Over}
use Rattle.oci_config.specs.declared.process.ProcessConfig.{ProcessConfig}
use Rattle.task_board.specs.Refusals.{CannotOpen, no_module, too_much}

-- what a decoder's refusal says
pub record Undecoded (bytes : List ℕ) (e : Refusal) : Type 0 where
  pub bad : e ≡ refusal.BadModule → (m : Module) → Spells bytes m → ⊥
  pub over : e ≡ refusal.Limit → Over bytes
  pub none : e ≡ refusal.Limit → (m : Module) → Spells bytes m → Within m → length bytes ≤ max_module_bytes → ⊥

pub undecoded : (bytes : List ℕ) (p : ProcessConfig) (e : Refusal) → Undecoded bytes e
    → (e ≡ refusal.BadModule) ⊎ ((e ≡ refusal.Limit) ⊎ (e ≡ refusal.NoMemory))
    → e ≢ refusal.NoMemory → CannotOpen bytes p e
undecoded bytes p e u (inl bad) other = subst (CannotOpen bytes p) (sym bad) (no_module (u.bad bad))
undecoded bytes p e u (inr (inl over)) other =
    subst (CannotOpen bytes p) (sym over) (too_much (u.over over) (λ m s. u.none over m s.spells s.within s.short))
undecoded bytes p e u (inr (inr no_memory)) other = absurd (other no_memory)

-- what a checker's refusal says
pub unchecked : (r : Result Module Refusal) (e : Refusal)
    → OnErr r (((at : Option Place) × (r ≡ Err (refusal.Invalid at))) ⊎ (r ≡ Err refusal.NoMemory))
    → r ≡ Err e → e ≢ refusal.NoMemory → (at : Option Place) × (e ≡ refusal.Invalid at)
unchecked (Ok v) e h is other = let n : ⊥ = cc in absurd n
unchecked (Err x) e (inl p) is other =
    let why = p.1 in
    let same : e ≡ refusal.Invalid p.0 = cc in (p.0, same)
unchecked (Err x) e (inr p) is other = let n : e ≡ refusal.NoMemory = cc in absurd (other n)
