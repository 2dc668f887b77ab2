-- The module of bytes, within the limits of the profile.
use Rattle.std.specs.Prelude.{ℕ, ◌≤◌, List, length}
use Rattle.wasm_ast.specs.declared.module.Module.{Module}
use Rattle.wasm_ast.specs.Limits.{max_module_bytes, Within}
use Rattle.wasm_binary.specs.Grammar.{Spells}

-- the bytes spell this module, within the limits of the profile
pub record IsSpelled (bytes : List ℕ) (m : Module) : Type 0 where
  pub spells : Spells bytes m
  pub within : Within m
  pub short : length bytes ≤ max_module_bytes
