-- What loads and stores access (2.4.4). Bytes that are fewer than the type has are extended by their sign,
-- or by zeros.
use Rattle.std.specs.Prelude.{ℕ, Bool, true, false}
use Rattle.wasm_ast.specs.declared.values.ValType.{ValType}
use Rattle.wasm_ast.specs.declared.values.ValType.TheVariants as type
use Rattle.wasm_ast.specs.declared.operators.LoadOp.{LoadOp}
use Rattle.wasm_ast.specs.declared.operators.LoadOp.TheVariants as load
use Rattle.wasm_ast.specs.declared.operators.StoreOp.{StoreOp}
use Rattle.wasm_ast.specs.declared.operators.StoreOp.TheVariants as store

-- the type of the value, how many bytes a load reads, and whether it extends them by their sign
abbrev pub load_access : LoadOp → ValType × ℕ × Bool
load_access load.I32 = (type.I32, 4, false)
load_access load.I64 = (type.I64, 8, false)
load_access load.I32From8S = (type.I32, 1, true)
load_access load.I32From8U = (type.I32, 1, false)
load_access load.I32From16S = (type.I32, 2, true)
load_access load.I32From16U = (type.I32, 2, false)
load_access load.I64From8S = (type.I64, 1, true)
load_access load.I64From8U = (type.I64, 1, false)
load_access load.I64From16S = (type.I64, 2, true)
load_access load.I64From16U = (type.I64, 2, false)
load_access load.I64From32S = (type.I64, 4, true)
load_access load.I64From32U = (type.I64, 4, false)

abbrev pub load_type : LoadOp → ValType
load_type op = (load_access op).0

abbrev pub load_bytes : LoadOp → ℕ
load_bytes op = (load_access op).1

abbrev pub is_sign_extended : LoadOp → Bool
is_sign_extended op = (load_access op).2

-- the type of the value, and how many bytes a store writes, the lowest of its operand
abbrev pub store_access : StoreOp → ValType × ℕ
store_access store.I32 = (type.I32, 4)
store_access store.I64 = (type.I64, 8)
store_access store.I32To8 = (type.I32, 1)
store_access store.I32To16 = (type.I32, 2)
store_access store.I64To8 = (type.I64, 1)
store_access store.I64To16 = (type.I64, 2)
store_access store.I64To32 = (type.I64, 4)

abbrev pub store_type : StoreOp → ValType
store_type op = (store_access op).0

abbrev pub store_bytes : StoreOp → ℕ
store_bytes op = (store_access op).1
