-- What `asm` writes.
use Rattle.std.specs.Prelude.{ℕ, List}
use Rattle.hex.specs.Hex.{encode_lower}
use Rattle.wasm_ast.specs.declared.module.Module.{Module}
use Rattle.wasm_ast.specs.declared.refusal.Refusal.{Refusal}
use Rattle.wasm_ast.specs.declared.refusal.Refusal.TheVariants as refusal
use Rattle.wasm_binary.specs.Canonical.{canon, FitsLimits}
use Rattle.file_commands.specs.declared.ran.Ran.{Ran}
use Rattle.file_commands.specs.Source.{IsSource, IsNoSource}
use Rattle.file_commands.specs.Ran.{line, succeeded, refused}

pub data IsAssembled (bytes : List ℕ) : Ran → Type 0 where
  -- the canonical encoding of the module in the file, in lower-case hexadecimal
  assembled : (m : Module) → IsSource bytes m → FitsLimits m
      → IsAssembled bytes (succeeded (line (encode_lower (canon m))))
  -- that encoding is too long
  too_long : (m : Module) → IsSource bytes m → (FitsLimits m → ⊥)
      → IsAssembled bytes (refused refusal.Limit)
  no_module : (e : Refusal) → IsNoSource bytes e → IsAssembled bytes (refused e)
