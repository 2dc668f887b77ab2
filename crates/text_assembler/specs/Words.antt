-- The words of instructions without bodies (6.5): each is a keyword, which what it needs beside it follows.
use Rattle.std.specs.Prelude.{ℕ, List, [], ◌∷◌, ◌++◌, map, codes, Option, Some, None, bytes_eq, if◌then◌else◌}
use Rattle.wasm_ast.specs.declared.values.ValType.{ValType}
use Rattle.wasm_ast.specs.declared.values.ValType.TheVariants as type
use Rattle.wasm_ast.specs.declared.instr.LocalOp.TheVariants as local
use Rattle.wasm_ast.specs.declared.instr.GlobalOp.TheVariants as global
use Rattle.wasm_ast.specs.declared.operators.LoadOp.TheVariants as load
use Rattle.wasm_ast.specs.declared.operators.StoreOp.TheVariants as store
use Rattle.wasm_ast.specs.declared.operators.UnaryOp.{UnaryOp}
use Rattle.wasm_ast.specs.declared.operators.UnaryOp.TheVariants as unary
use Rattle.wasm_ast.specs.declared.operators.BinaryOp.{BinaryOp}
use Rattle.wasm_ast.specs.declared.operators.BinaryOp.TheVariants as binary
use Rattle.wasm_ast.specs.declared.operators.TestOp.TheVariants as test
use Rattle.wasm_ast.specs.declared.operators.RelationOp.{RelationOp}
use Rattle.wasm_ast.specs.declared.operators.RelationOp.TheVariants as relation
use Rattle.wasm_ast.specs.declared.operators.ConvertOp.TheVariants as convert
use Rattle.wasm_binary.specs.Tables.{all_loads, all_stores, all_unary, all_binary, all_relations, all_conversions}
use Rattle.text_assembler.specs.declared.keyword.Keyword.{Keyword}
use Rattle.text_assembler.specs.declared.keyword.Keyword.TheVariants as keyword

-- the type of a value (6.4.1)
abbrev pub type_word : ValType → List ℕ
type_word type.I32 = codes "i32"
type_word type.I64 = codes "i64"

-- operators and comparisons, after the type and a dot (6.5.6)
abbrev pub unary_word : UnaryOp → List ℕ
unary_word unary.Clz = codes "clz"
unary_word unary.Ctz = codes "ctz"
unary_word unary.Popcnt = codes "popcnt"

abbrev pub binary_word : BinaryOp → List ℕ
binary_word binary.Add = codes "add"
binary_word binary.Sub = codes "sub"
binary_word binary.Mul = codes "mul"
binary_word binary.DivS = codes "div_s"
binary_word binary.DivU = codes "div_u"
binary_word binary.RemS = codes "rem_s"
binary_word binary.RemU = codes "rem_u"
binary_word binary.And = codes "and"
binary_word binary.Or = codes "or"
binary_word binary.Xor = codes "xor"
binary_word binary.Shl = codes "shl"
binary_word binary.ShrS = codes "shr_s"
binary_word binary.ShrU = codes "shr_u"
binary_word binary.Rotl = codes "rotl"
binary_word binary.Rotr = codes "rotr"

abbrev pub relation_word : RelationOp → List ℕ
relation_word relation.Eq = codes "eq"
relation_word relation.Ne = codes "ne"
relation_word relation.LtS = codes "lt_s"
relation_word relation.LtU = codes "lt_u"
relation_word relation.GtS = codes "gt_s"
relation_word relation.GtU = codes "gt_u"
relation_word relation.LeS = codes "le_s"
relation_word relation.LeU = codes "le_u"
relation_word relation.GeS = codes "ge_s"
relation_word relation.GeU = codes "ge_u"

-- the word of an operator on this type
abbrev pub typed : ValType → List ℕ → List ℕ
typed t name = type_word t ++ codes "." ++ name

-- control (6.5.2), parametric (6.5.3), variable (6.5.4), memory (6.5.5) and numeric instructions
-- (6.5.6); the last five are of Core 2.0 (6.5.8)
abbrev pub keyword_word : Keyword → List ℕ
keyword_word keyword.Unreachable = codes "unreachable"
keyword_word keyword.Nop = codes "nop"
keyword_word keyword.Br = codes "br"
keyword_word keyword.BrIf = codes "br_if"
keyword_word keyword.BrTable = codes "br_table"
keyword_word keyword.Return = codes "return"
keyword_word keyword.Call = codes "call"
keyword_word keyword.CallIndirect = codes "call_indirect"
keyword_word keyword.Drop = codes "drop"
keyword_word keyword.Select = codes "select"
keyword_word (keyword.Local local.Get) = codes "local.get"
keyword_word (keyword.Local local.Set) = codes "local.set"
keyword_word (keyword.Local local.Tee) = codes "local.tee"
keyword_word (keyword.Global global.Get) = codes "global.get"
keyword_word (keyword.Global global.Set) = codes "global.set"
keyword_word (keyword.Load load.I32) = codes "i32.load"
keyword_word (keyword.Load load.I64) = codes "i64.load"
keyword_word (keyword.Load load.I32From8S) = codes "i32.load8_s"
keyword_word (keyword.Load load.I32From8U) = codes "i32.load8_u"
keyword_word (keyword.Load load.I32From16S) = codes "i32.load16_s"
keyword_word (keyword.Load load.I32From16U) = codes "i32.load16_u"
keyword_word (keyword.Load load.I64From8S) = codes "i64.load8_s"
keyword_word (keyword.Load load.I64From8U) = codes "i64.load8_u"
keyword_word (keyword.Load load.I64From16S) = codes "i64.load16_s"
keyword_word (keyword.Load load.I64From16U) = codes "i64.load16_u"
keyword_word (keyword.Load load.I64From32S) = codes "i64.load32_s"
keyword_word (keyword.Load load.I64From32U) = codes "i64.load32_u"
keyword_word (keyword.Store store.I32) = codes "i32.store"
keyword_word (keyword.Store store.I64) = codes "i64.store"
keyword_word (keyword.Store store.I32To8) = codes "i32.store8"
keyword_word (keyword.Store store.I32To16) = codes "i32.store16"
keyword_word (keyword.Store store.I64To8) = codes "i64.store8"
keyword_word (keyword.Store store.I64To16) = codes "i64.store16"
keyword_word (keyword.Store store.I64To32) = codes "i64.store32"
keyword_word keyword.MemorySize = codes "memory.size"
keyword_word keyword.MemoryGrow = codes "memory.grow"
keyword_word (keyword.Const t) = typed t (codes "const")
keyword_word (keyword.Unary t op) = typed t (unary_word op)
keyword_word (keyword.Binary t op) = typed t (binary_word op)
keyword_word (keyword.Test t test.Eqz) = typed t (codes "eqz")
keyword_word (keyword.Compare t op) = typed t (relation_word op)
keyword_word (keyword.Convert convert.Wrap) = codes "i32.wrap_i64"
keyword_word (keyword.Convert convert.ExtendS) = codes "i64.extend_i32_s"
keyword_word (keyword.Convert convert.ExtendU) = codes "i64.extend_i32_u"
keyword_word (keyword.Convert convert.I32From8S) = codes "i32.extend8_s"
keyword_word (keyword.Convert convert.I32From16S) = codes "i32.extend16_s"
keyword_word (keyword.Convert convert.I64From8S) = codes "i64.extend8_s"
keyword_word (keyword.Convert convert.I64From16S) = codes "i64.extend16_s"
keyword_word (keyword.Convert convert.I64From32S) = codes "i64.extend32_s"

-- control, variables and the size of memory
abbrev pub controls : List Keyword
controls =
    keyword.Unreachable ∷ keyword.Nop ∷ keyword.Br ∷ keyword.BrIf ∷ keyword.BrTable ∷
    keyword.Return ∷ keyword.Call ∷ keyword.CallIndirect ∷ keyword.Drop ∷ keyword.Select ∷
    keyword.MemorySize ∷ keyword.MemoryGrow ∷ keyword.Local local.Get ∷ keyword.Local local.Set ∷
    keyword.Local local.Tee ∷ keyword.Global global.Get ∷ keyword.Global global.Set ∷ []

-- memory
abbrev pub accesses : List Keyword
accesses = map keyword.Load all_loads ++ map keyword.Store all_stores

-- constants, operators, tests and comparisons of a type
abbrev pub numerics : ValType → List Keyword
numerics t =
    keyword.Const t ∷ map (keyword.Unary t) all_unary ++ map (keyword.Binary t) all_binary
    ++ keyword.Test t test.Eqz ∷ map (keyword.Compare t) all_relations

abbrev pub keywords : List Keyword
keywords =
    controls ++ accesses ++ numerics type.I32 ++ numerics type.I64
    ++ map keyword.Convert all_conversions

-- the first of these whose word this is
unfoldable pub find_word : List Keyword → List ℕ → Option Keyword
find_word [] word = None
find_word (k ∷ ks) word = if bytes_eq (keyword_word k) word then Some k else find_word ks word

-- the keyword that a word is
unfoldable pub keyword_of : List ℕ → Option Keyword
keyword_of word = find_word keywords word
