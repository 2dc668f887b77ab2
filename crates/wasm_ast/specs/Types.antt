-- The types of values (4.2.1) and of conversions (3.3.1), and those that a module gives its blocks and its
-- functions (2.3.3, 2.4.5, 2.5.1).
use Rattle.std.specs.Prelude.{ℕ, zero, suc, List, [], ◌∷◌, ◌++◌, map, Option, Some, None, slice_get, Bool, true, false, ◌&&◌}
use Rattle.wasm_ast.specs.declared.values.ValType.{ValType}
use Rattle.wasm_ast.specs.declared.values.ValType.TheVariants as type
use Rattle.wasm_ast.specs.declared.values.Value.{Value}
use Rattle.wasm_ast.specs.declared.values.Value.TheVariants.{I32, I64}
use Rattle.wasm_ast.specs.declared.values.FuncType.{FuncType}
use Rattle.wasm_ast.specs.declared.operators.ConvertOp.{ConvertOp}
use Rattle.wasm_ast.specs.declared.operators.ConvertOp.TheVariants.{Wrap, ExtendS, ExtendU, I32From8S, I32From16S, I64From8S, I64From16S, I64From32S}
use Rattle.wasm_ast.specs.declared.instr.BlockType.{BlockType}
use Rattle.wasm_ast.specs.declared.instr.BlockType.TheVariants.{Empty, One, Index}
use Rattle.wasm_ast.specs.declared.module.Module.{Module}

-- the type of a value (4.2.1)
abbrev pub type_of : Value → ValType
type_of (I32 n) = type.I32
type_of (I64 n) = type.I64

-- the value of a type with this number
abbrev pub value_of : ValType → ℕ → Value
value_of type.I32 n = I32 n
value_of type.I64 n = I64 n

-- a value type's zero, which locals hold on entry (4.4.7)
abbrev pub zero_of : ValType → Value
zero_of type.I32 = I32 0
zero_of type.I64 = I64 0

-- whether two types are the same, which holds of equal types alone
abbrev pub is_same_type : ValType → ValType → Bool
is_same_type type.I32 type.I32 = true
is_same_type type.I64 type.I64 = true
is_same_type t other = false

abbrev pub are_same_types : List ValType → List ValType → Bool
are_same_types [] [] = true
are_same_types (t ∷ ts) (u ∷ us) = is_same_type t u && are_same_types ts us
are_same_types ts others = false

-- the types that a conversion takes and gives (3.3.1)
abbrev pub conversion_types : ConvertOp → ValType × ValType
conversion_types Wrap = (type.I64, type.I32)
conversion_types ExtendS = (type.I32, type.I64)
conversion_types ExtendU = (type.I32, type.I64)
conversion_types I32From8S = (type.I32, type.I32)
conversion_types I32From16S = (type.I32, type.I32)
conversion_types I64From8S = (type.I64, type.I64)
conversion_types I64From16S = (type.I64, type.I64)
conversion_types I64From32S = (type.I64, type.I64)

abbrev pub source_of : ConvertOp → ValType
source_of op = (conversion_types op).0

abbrev pub target_of : ConvertOp → ValType
target_of op = (conversion_types op).1

-- a block's type as a function's (2.4.5; by index Core 2.0, 2.4.8): none for an index that names no type
abbrev pub block_type : List FuncType → BlockType → Option FuncType
block_type types Empty = Some (record { params = []; results = [] })
block_type types (One t) = Some (record { params = []; results = t ∷ [] })
block_type types (Index i) = slice_get types i

-- the types of a module's functions, imports first (2.5.1): none for one whose index names no type
abbrev pub func_types : Module → List (Option FuncType)
func_types m =
    map (λ i. slice_get m.types i.type_index) m.imports
    ++ map (λ f. slice_get m.types f.type_index) m.funcs

-- the type of a function by its index
abbrev pub type_at : List (Option FuncType) → ℕ → Option FuncType
type_at [] k = None
type_at (t ∷ ts) zero = t
type_at (t ∷ ts) (suc k) = type_at ts k
