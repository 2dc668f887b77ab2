-- What a sequence of instructions leads to in a function (3.3.6), whether or not the module is valid.
use Rattle.std.specs.Prelude.{◌≡◌, ℕ, List, Some, slice_get}
use Rattle.wasm_ast.specs.declared.values.ValType.{ValType}
use Rattle.wasm_ast.specs.declared.values.FuncType.{FuncType}
use Rattle.wasm_ast.specs.declared.module.Func.{Func}
use Rattle.wasm_ast.specs.declared.module.Module.{Module}
use Rattle.wasm_ast.specs.Syntax.{Ops}
use Rattle.validator.specs.Typing.{body_context, Typed}
use Rattle.validator.specs.PlaceTypes.{IsOwn}

-- in a function of the module's own, and inside these labels, the sequence leads from one stack to another
abbrev pub LeadsIn :
    Module → (func : ℕ) → (labels : List (List ValType)) → Ops → (old new : List ValType) → Type 0
LeadsIn m func labels os old new =
    (f : Func) × (t : FuncType) × IsOwn m func f × (slice_get m.types f.type_index ≡ Some t)
    × Typed (record (body_context m t f) { labels = labels }) os old new
