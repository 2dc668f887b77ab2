-- The bytes of the binary format (5.3 to 5.5), each by name.
use Rattle.std.specs.Prelude.{ℕ, ◌+◌, List, [], ◌∷◌}
use Rattle.wasm_ast.specs.declared.values.ValType.{ValType}
use Rattle.wasm_ast.specs.declared.values.ValType.TheVariants as type
use Rattle.wasm_ast.specs.declared.values.Value.TheVariants as value
use Rattle.wasm_ast.specs.declared.instr.Simple.{Simple}
use Rattle.wasm_ast.specs.declared.instr.Simple.TheVariants.{Unreachable, Nop, Br, BrIf, BrTable, Return, Call, CallIndirect, Drop, Select, Local, Global, Load, Store, MemorySize, MemoryGrow, Const, Unary, Binary, Test, Compare, Convert}
use Rattle.wasm_ast.specs.declared.instr.LocalOp.{LocalOp}
use Rattle.wasm_ast.specs.declared.instr.LocalOp.TheVariants as local
use Rattle.wasm_ast.specs.declared.instr.GlobalOp.{GlobalOp}
use Rattle.wasm_ast.specs.declared.instr.GlobalOp.TheVariants as global
use Rattle.wasm_ast.specs.declared.operators.LoadOp.{LoadOp}
use Rattle.wasm_ast.specs.declared.operators.LoadOp.TheVariants as load
use Rattle.wasm_ast.specs.declared.operators.StoreOp.{StoreOp}
use Rattle.wasm_ast.specs.declared.operators.StoreOp.TheVariants as store
use Rattle.wasm_ast.specs.declared.operators.UnaryOp.{UnaryOp}
use Rattle.wasm_ast.specs.declared.operators.UnaryOp.TheVariants as unary
use Rattle.wasm_ast.specs.declared.operators.BinaryOp.{BinaryOp}
use Rattle.wasm_ast.specs.declared.operators.BinaryOp.TheVariants as binary
use Rattle.wasm_ast.specs.declared.operators.TestOp.{TestOp}
use Rattle.wasm_ast.specs.declared.operators.TestOp.TheVariants as test
use Rattle.wasm_ast.specs.declared.operators.RelationOp.{RelationOp}
use Rattle.wasm_ast.specs.declared.operators.RelationOp.TheVariants as relation
use Rattle.wasm_ast.specs.declared.operators.ConvertOp.{ConvertOp}
use Rattle.wasm_ast.specs.declared.operators.ConvertOp.TheVariants as convert
use Rattle.wasm_ast.specs.declared.module.Mutability.{Mutability}
use Rattle.wasm_ast.specs.declared.module.Mutability.TheVariants as mutability
use Rattle.wasm_ast.specs.declared.module.ExportKind.{ExportKind}
use Rattle.wasm_ast.specs.declared.module.ExportKind.TheVariants as kinds

-- ---- types (5.3)

-- the type of a value (5.3.1)
abbrev pub type_byte : ValType → ℕ
type_byte type.I32 = 0x7F
type_byte type.I64 = 0x7E

abbrev pub func_type_byte : ℕ
func_type_byte = 0x60

-- the type of a block without a result
abbrev pub empty_byte : ℕ
empty_byte = 0x40

-- limits without a largest size, and with one (5.3.4)
abbrev pub min_byte : ℕ
min_byte = 0x00

abbrev pub min_max_byte : ℕ
min_max_byte = 0x01

-- the type of the elements of a table (5.3.6)
abbrev pub table_type_byte : ℕ
table_type_byte = 0x70

-- whether a global may be written (5.3.7)
abbrev pub mutability_byte : Mutability → ℕ
mutability_byte mutability.Const = 0x00
mutability_byte mutability.Var = 0x01

-- ---- instructions that have bodies (5.4.1)

abbrev pub block_byte : ℕ
block_byte = 0x02

abbrev pub loop_byte : ℕ
loop_byte = 0x03

abbrev pub if_byte : ℕ
if_byte = 0x04

abbrev pub else_byte : ℕ
else_byte = 0x05

abbrev pub end_byte : ℕ
end_byte = 0x0B

-- what is done with a local (5.4.3)
abbrev pub local_byte : LocalOp → ℕ
local_byte local.Get = 0x20
local_byte local.Set = 0x21
local_byte local.Tee = 0x22

-- what is done with a global (5.4.3)
abbrev pub global_byte : GlobalOp → ℕ
global_byte global.Get = 0x23
global_byte global.Set = 0x24

-- loads (5.4.4)
abbrev pub load_byte : LoadOp → ℕ
load_byte load.I32 = 0x28
load_byte load.I64 = 0x29
load_byte load.I32From8S = 0x2C
load_byte load.I32From8U = 0x2D
load_byte load.I32From16S = 0x2E
load_byte load.I32From16U = 0x2F
load_byte load.I64From8S = 0x30
load_byte load.I64From8U = 0x31
load_byte load.I64From16S = 0x32
load_byte load.I64From16U = 0x33
load_byte load.I64From32S = 0x34
load_byte load.I64From32U = 0x35

-- stores (5.4.4)
abbrev pub store_byte : StoreOp → ℕ
store_byte store.I32 = 0x36
store_byte store.I64 = 0x37
store_byte store.I32To8 = 0x3A
store_byte store.I32To16 = 0x3B
store_byte store.I64To8 = 0x3C
store_byte store.I64To16 = 0x3D
store_byte store.I64To32 = 0x3E

-- tests (5.4.5)
abbrev pub test_byte : ValType → TestOp → ℕ
test_byte type.I32 test.Eqz = 0x45
test_byte type.I64 test.Eqz = 0x50

-- comparisons of i32 (5.4.5)
abbrev pub narrow_compare_byte : RelationOp → ℕ
narrow_compare_byte relation.Eq = 0x46
narrow_compare_byte relation.Ne = 0x47
narrow_compare_byte relation.LtS = 0x48
narrow_compare_byte relation.LtU = 0x49
narrow_compare_byte relation.GtS = 0x4A
narrow_compare_byte relation.GtU = 0x4B
narrow_compare_byte relation.LeS = 0x4C
narrow_compare_byte relation.LeU = 0x4D
narrow_compare_byte relation.GeS = 0x4E
narrow_compare_byte relation.GeU = 0x4F

-- comparisons (5.4.5): those of i64 are in the same order, from 0x51
abbrev pub compare_byte : ValType → RelationOp → ℕ
compare_byte type.I32 op = narrow_compare_byte op
compare_byte type.I64 op = narrow_compare_byte op + 0x0B

-- operators with one operand (5.4.5)
abbrev pub unary_byte : ValType → UnaryOp → ℕ
unary_byte type.I32 unary.Clz = 0x67
unary_byte type.I32 unary.Ctz = 0x68
unary_byte type.I32 unary.Popcnt = 0x69
unary_byte type.I64 unary.Clz = 0x79
unary_byte type.I64 unary.Ctz = 0x7A
unary_byte type.I64 unary.Popcnt = 0x7B

-- operators of i32 with two operands (5.4.5)
abbrev pub narrow_binary_byte : BinaryOp → ℕ
narrow_binary_byte binary.Add = 0x6A
narrow_binary_byte binary.Sub = 0x6B
narrow_binary_byte binary.Mul = 0x6C
narrow_binary_byte binary.DivS = 0x6D
narrow_binary_byte binary.DivU = 0x6E
narrow_binary_byte binary.RemS = 0x6F
narrow_binary_byte binary.RemU = 0x70
narrow_binary_byte binary.And = 0x71
narrow_binary_byte binary.Or = 0x72
narrow_binary_byte binary.Xor = 0x73
narrow_binary_byte binary.Shl = 0x74
narrow_binary_byte binary.ShrS = 0x75
narrow_binary_byte binary.ShrU = 0x76
narrow_binary_byte binary.Rotl = 0x77
narrow_binary_byte binary.Rotr = 0x78

-- operators with two operands (5.4.5): those of i64 are in the same order, from 0x7C
abbrev pub binary_byte : ValType → BinaryOp → ℕ
binary_byte type.I32 op = narrow_binary_byte op
binary_byte type.I64 op = narrow_binary_byte op + 0x12

-- conversions (5.4.5; the last five are of Core 2.0, 5.4.7)
abbrev pub convert_byte : ConvertOp → ℕ
convert_byte convert.Wrap = 0xA7
convert_byte convert.ExtendS = 0xAC
convert_byte convert.ExtendU = 0xAD
convert_byte convert.I32From8S = 0xC0
convert_byte convert.I32From16S = 0xC1
convert_byte convert.I64From8S = 0xC2
convert_byte convert.I64From16S = 0xC3
convert_byte convert.I64From32S = 0xC4

-- the opcode of an instruction without a body (5.4.1 to 5.4.5)
abbrev pub opcode : Simple → ℕ
opcode Unreachable = 0x00
opcode Nop = 0x01
opcode (Br label) = 0x0C
opcode (BrIf label) = 0x0D
opcode (BrTable other labels) = 0x0E
opcode Return = 0x0F
opcode (Call func) = 0x10
opcode (CallIndirect index) = 0x11
opcode Drop = 0x1A
opcode Select = 0x1B
opcode (Local op index) = local_byte op
opcode (Global op index) = global_byte op
opcode (Load op at) = load_byte op
opcode (Store op at) = store_byte op
opcode MemorySize = 0x3F
opcode MemoryGrow = 0x40
opcode (Const (value.I32 n)) = 0x41
opcode (Const (value.I64 n)) = 0x42
opcode (Test t op) = test_byte t op
opcode (Compare t op) = compare_byte t op
opcode (Unary t op) = unary_byte t op
opcode (Binary t op) = binary_byte t op
opcode (Convert op) = convert_byte op

-- what follows the type of `call_indirect`, and the opcodes of `memory.size` and `memory.grow`
abbrev pub reserved_byte : ℕ
reserved_byte = 0x00

-- what is imported or exported (5.5.5, 5.5.10)
abbrev pub kind_byte : ExportKind → ℕ
kind_byte kinds.Func = 0x00
kind_byte kinds.Table = 0x01
kind_byte kinds.Memory = 0x02
kind_byte kinds.Global = 0x03

-- ---- ids of sections (5.5.2)

abbrev pub custom_section : ℕ
custom_section = 0

abbrev pub type_section : ℕ
type_section = 1

abbrev pub import_section : ℕ
import_section = 2

abbrev pub function_section : ℕ
function_section = 3

abbrev pub table_section : ℕ
table_section = 4

abbrev pub memory_section : ℕ
memory_section = 5

abbrev pub global_section : ℕ
global_section = 6

abbrev pub export_section : ℕ
export_section = 7

abbrev pub start_section : ℕ
start_section = 8

abbrev pub element_section : ℕ
element_section = 9

abbrev pub code_section : ℕ
code_section = 10

abbrev pub data_section : ℕ
data_section = 11

-- the magic number and the version (5.5.15)
abbrev pub preamble : List ℕ
preamble = 0x00 ∷ 0x61 ∷ 0x73 ∷ 0x6D ∷ 0x01 ∷ 0x00 ∷ 0x00 ∷ 0x00 ∷ []
