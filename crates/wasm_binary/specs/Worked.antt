-- A module with one item in each section but that of imports.
use Rattle.std.specs.Prelude.{[], ◌∷◌, codes, Some, None}
use Rattle.wasm_ast.specs.declared.values.ValType.TheVariants as type
use Rattle.wasm_ast.specs.declared.values.Value.TheVariants.{I32, I64}
use Rattle.wasm_ast.specs.declared.instr.Simple.TheVariants.{Const}
use Rattle.wasm_ast.specs.declared.module.Mutability.TheVariants.{Var}
use Rattle.wasm_ast.specs.declared.module.ExportKind.TheVariants.{Memory}
use Rattle.wasm_ast.specs.declared.module.Module.{Module}
use Rattle.wasm_ast.specs.Syntax.{simple, stop, next}

abbrev pub one_of_each : Module
one_of_each = record {
  types = record { params = []; results = [] } ∷ [];
  imports = [];
  funcs = record { type_index = 0; locals = []; body = stop } ∷ [];
  tables = record { min = 1; max = Some 2 } ∷ [];
  memories = record { min = 1; max = None } ∷ [];
  globals =
      record { val_type = type.I64; mutability = Var; init = next (simple (Const (I64 7))) stop }
      ∷ [];
  exports = record { name = codes "m"; kind = Memory; index = 0 } ∷ [];
  start = Some 0;
  elements = record { table = 0; offset = next (simple (Const (I32 0))) stop; funcs = 0 ∷ [] } ∷ [];
  segments =
      record { memory = 0; offset = next (simple (Const (I32 8))) stop; bytes = 0xFF ∷ [] } ∷ [];
}
