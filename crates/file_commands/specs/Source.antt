-- The module that is in a file: in the binary format if the first byte is 00, else in the text format
-- (WebAssembly Core Specification 1.0, 5.5.15 and 6.6.13).
use Rattle.std.specs.Prelude.{◌≡◌, ◌⊎◌, ℕ, nat_eq, List, [], ◌∷◌, Bool, true, false}
use Rattle.std.specs.Str.{is_utf8}
use Rattle.wasm_ast.specs.declared.module.Module.{Module}
use Rattle.wasm_ast.specs.declared.refusal.Refusal.{Refusal}
use Rattle.wasm_ast.specs.declared.refusal.Refusal.TheVariants as refusal
use Rattle.wasm_binary.specs.Grammar.{Spells}
use Rattle.wasm_binary.specs.Limits.{Over}
use Rattle.wasm_binary.specs.Spelled.{IsSpelled}
use Rattle.wasm_binary.specs.Canonical.{FitsLimits}
use Rattle.text_assembler.specs.Modules.{Denotes, IsTooDeep}

-- the file is in the binary format
abbrev pub is_binary : List ℕ → Bool
is_binary [] = false
is_binary (byte ∷ bytes) = nat_eq byte 0

-- the file has this module, within the limits of the profile
pub data IsSource (bytes : List ℕ) (m : Module) : Type 0 where
  binary : is_binary bytes ≡ true → IsSpelled bytes m → IsSource bytes m
  text : is_binary bytes ≡ false → is_utf8 bytes ≡ true → Denotes bytes m → FitsLimits m
      → IsSource bytes m

-- why a file has no module within the limits, and how that is refused
pub data IsNoSource (bytes : List ℕ) : Refusal → Type 0 where
  -- the bytes encode no module
  bad_module : is_binary bytes ≡ true → ((m : Module) → Spells bytes m → ⊥)
      → IsNoSource bytes refusal.BadModule
  -- they pass a limit
  large_module : is_binary bytes ≡ true → Over bytes → IsNoSource bytes refusal.Limit
  -- they are neither in the binary format nor a text
  no_text : is_binary bytes ≡ false → is_utf8 bytes ≡ false → IsNoSource bytes (refusal.BadText 1 1)
  -- the text denotes no module; at which line and column is open
  bad_text : (line column : ℕ) → is_binary bytes ≡ false → is_utf8 bytes ≡ true
      → ((m : Module) → Denotes bytes m → ⊥) → IsNoSource bytes (refusal.BadText line column)
  -- it denotes none that fits the limits: it denotes one, or has more blocks open at one word than they allow
  large_text : is_binary bytes ≡ false → is_utf8 bytes ≡ true
      → ((m : Module) → Denotes bytes m → FitsLimits m → ⊥)
      → ((m : Module) × Denotes bytes m) ⊎ IsTooDeep bytes → IsNoSource bytes refusal.Limit
