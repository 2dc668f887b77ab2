-- Texts of modules: the bytes that are stored of one, and why none are.
use Rattle.std.specs.Prelude.{◌≡◌, ℕ, List}
use Rattle.wasm_ast.specs.declared.module.Module.{Module}
use Rattle.wasm_ast.specs.declared.refusal.Refusal.{Refusal}
use Rattle.wasm_ast.specs.declared.refusal.Refusal.TheVariants as refusal
use Rattle.wasm_binary.specs.Canonical.{canon, FitsLimits}
use Rattle.text_assembler.specs.Modules.{Denotes, IsTooDeep}

-- the bytes are the canonical encoding of a module that the text denotes, and that is within the limits
pub record IsAssembled (text bytes : List ℕ) : Type 0 where
  pub «module» : Module
  pub denotes : Denotes text «module»
  pub fits : FitsLimits «module»
  pub encodes : bytes ≡ canon «module»

-- the text denotes no module
abbrev pub DenotesNone : (text : List ℕ) → Type 0
DenotesNone text = (m : Module) → Denotes text m → ⊥

-- why no bytes are stored of a text
pub data CannotAssemble (text : List ℕ) : Refusal → Type 0 where
  -- it denotes no module; which line and column are told is open
  bad_text :
      (line column : ℕ) → DenotesNone text → CannotAssemble text (refusal.BadText line column)
  -- it denotes a module that passes a limit
  too_much : (m : Module) → Denotes text m → (FitsLimits m → ⊥) → CannotAssemble text refusal.Limit
  -- more than 256 blocks are open at one word, so that it denotes no module within the limits
  too_deep : IsTooDeep text → CannotAssemble text refusal.Limit
