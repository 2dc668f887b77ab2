-- The value that a type and the low and the high 32 bits of a number make.
use Rattle.std.specs.Prelude.{ℕ, ◌+◌, ◌*◌, ◌^◌}
use Rattle.wasm_ast.specs.declared.values.ValType.{ValType}
use Rattle.wasm_ast.specs.declared.values.ValType.TheVariants as type
use Rattle.wasm_ast.specs.declared.values.Value.{Value}
use Rattle.wasm_ast.specs.declared.values.Value.TheVariants.{I32, I64}

abbrev pub value_of : ValType → (low high : ℕ) → Value
value_of type.I32 low high = I32 low
value_of type.I64 low high = I64 (2 ^ 32 * high + low)
