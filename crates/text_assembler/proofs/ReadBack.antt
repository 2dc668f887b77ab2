-- Each keyword is found by its word, which is a word of the text and opens no block.
use Rattle.std.proofs.Common.{◌≡◌, true, false, Some, refl}
use Rattle.wasm_ast.specs.declared.values.ValType.TheVariants as type
use Rattle.wasm_ast.specs.declared.instr.LocalOp.TheVariants as local
use Rattle.wasm_ast.specs.declared.instr.GlobalOp.TheVariants as global
use Rattle.wasm_ast.specs.declared.operators.LoadOp.TheVariants as load
use Rattle.wasm_ast.specs.declared.operators.StoreOp.TheVariants as store
use Rattle.wasm_ast.specs.declared.operators.UnaryOp.TheVariants as unary
use Rattle.wasm_ast.specs.declared.operators.BinaryOp.TheVariants as binary
use Rattle.wasm_ast.specs.declared.operators.TestOp.TheVariants as test
use Rattle.wasm_ast.specs.declared.operators.RelationOp.TheVariants as relation
use Rattle.wasm_ast.specs.declared.operators.ConvertOp.TheVariants as convert
use Rattle.text_assembler.specs.declared.keyword.Keyword.{Keyword}
use Rattle.text_assembler.specs.declared.keyword.Keyword.TheVariants as keyword
use Rattle.text_assembler.specs.Words.{keyword_word, find_word, keyword_of}
use Rattle.text_assembler.specs.Instructions.{opens_block}
use Rattle.text_assembler.specs.Tokens.{is_empty}
use Rattle.text_assembler.proofs.Scanning.{is_wordlike}

pub record IsReadBack (k : Keyword) : Type 0 where
  pub found : keyword_of (keyword_word k) ≡ Some k
  pub simple : opens_block (keyword_word k) ≡ false
  pub wordlike : is_wordlike (keyword_word k) ≡ true
  pub nonempty : is_empty (keyword_word k) ≡ false

pub is_read_back : (k : Keyword) → IsReadBack k
unfolding keyword_of find_word
is_read_back keyword.Unreachable = record { found = refl; simple = refl; wordlike = refl; nonempty = refl }
is_read_back keyword.Nop = record { found = refl; simple = refl; wordlike = refl; nonempty = refl }
is_read_back keyword.Br = record { found = refl; simple = refl; wordlike = refl; nonempty = refl }
is_read_back keyword.BrIf = record { found = refl; simple = refl; wordlike = refl; nonempty = refl }
is_read_back keyword.BrTable = record { found = refl; simple = refl; wordlike = refl; nonempty = refl }
is_read_back keyword.Return = record { found = refl; simple = refl; wordlike = refl; nonempty = refl }
is_read_back keyword.Call = record { found = refl; simple = refl; wordlike = refl; nonempty = refl }
is_read_back keyword.CallIndirect = record { found = refl; simple = refl; wordlike = refl; nonempty = refl }
is_read_back keyword.Drop = record { found = refl; simple = refl; wordlike = refl; nonempty = refl }
is_read_back keyword.Select = record { found = refl; simple = refl; wordlike = refl; nonempty = refl }
is_read_back keyword.MemorySize = record { found = refl; simple = refl; wordlike = refl; nonempty = refl }
is_read_back keyword.MemoryGrow = record { found = refl; simple = refl; wordlike = refl; nonempty = refl }
is_read_back (keyword.Local local.Get) = record { found = refl; simple = refl; wordlike = refl; nonempty = refl }
is_read_back (keyword.Local local.Set) = record { found = refl; simple = refl; wordlike = refl; nonempty = refl }
is_read_back (keyword.Local local.Tee) = record { found = refl; simple = refl; wordlike = refl; nonempty = refl }
is_read_back (keyword.Global global.Get) = record { found = refl; simple = refl; wordlike = refl; nonempty = refl }
is_read_back (keyword.Global global.Set) = record { found = refl; simple = refl; wordlike = refl; nonempty = refl }
is_read_back (keyword.Load load.I32) = record { found = refl; simple = refl; wordlike = refl; nonempty = refl }
is_read_back (keyword.Load load.I64) = record { found = refl; simple = refl; wordlike = refl; nonempty = refl }
is_read_back (keyword.Load load.I32From8S) = record { found = refl; simple = refl; wordlike = refl; nonempty = refl }
is_read_back (keyword.Load load.I32From8U) = record { found = refl; simple = refl; wordlike = refl; nonempty = refl }
is_read_back (keyword.Load load.I32From16S) = record { found = refl; simple = refl; wordlike = refl; nonempty = refl }
is_read_back (keyword.Load load.I32From16U) = record { found = refl; simple = refl; wordlike = refl; nonempty = refl }
is_read_back (keyword.Load load.I64From8S) = record { found = refl; simple = refl; wordlike = refl; nonempty = refl }
is_read_back (keyword.Load load.I64From8U) = record { found = refl; simple = refl; wordlike = refl; nonempty = refl }
is_read_back (keyword.Load load.I64From16S) = record { found = refl; simple = refl; wordlike = refl; nonempty = refl }
is_read_back (keyword.Load load.I64From16U) = record { found = refl; simple = refl; wordlike = refl; nonempty = refl }
is_read_back (keyword.Load load.I64From32S) = record { found = refl; simple = refl; wordlike = refl; nonempty = refl }
is_read_back (keyword.Load load.I64From32U) = record { found = refl; simple = refl; wordlike = refl; nonempty = refl }
is_read_back (keyword.Store store.I32) = record { found = refl; simple = refl; wordlike = refl; nonempty = refl }
is_read_back (keyword.Store store.I64) = record { found = refl; simple = refl; wordlike = refl; nonempty = refl }
is_read_back (keyword.Store store.I32To8) = record { found = refl; simple = refl; wordlike = refl; nonempty = refl }
is_read_back (keyword.Store store.I32To16) = record { found = refl; simple = refl; wordlike = refl; nonempty = refl }
is_read_back (keyword.Store store.I64To8) = record { found = refl; simple = refl; wordlike = refl; nonempty = refl }
is_read_back (keyword.Store store.I64To16) = record { found = refl; simple = refl; wordlike = refl; nonempty = refl }
is_read_back (keyword.Store store.I64To32) = record { found = refl; simple = refl; wordlike = refl; nonempty = refl }
is_read_back (keyword.Const type.I32) = record { found = refl; simple = refl; wordlike = refl; nonempty = refl }
is_read_back (keyword.Unary type.I32 unary.Clz) =
    record { found = refl; simple = refl; wordlike = refl; nonempty = refl }
is_read_back (keyword.Unary type.I32 unary.Ctz) =
    record { found = refl; simple = refl; wordlike = refl; nonempty = refl }
is_read_back (keyword.Unary type.I32 unary.Popcnt) =
    record { found = refl; simple = refl; wordlike = refl; nonempty = refl }
is_read_back (keyword.Binary type.I32 binary.Add) =
    record { found = refl; simple = refl; wordlike = refl; nonempty = refl }
is_read_back (keyword.Binary type.I32 binary.Sub) =
    record { found = refl; simple = refl; wordlike = refl; nonempty = refl }
is_read_back (keyword.Binary type.I32 binary.Mul) =
    record { found = refl; simple = refl; wordlike = refl; nonempty = refl }
is_read_back (keyword.Binary type.I32 binary.DivS) =
    record { found = refl; simple = refl; wordlike = refl; nonempty = refl }
is_read_back (keyword.Binary type.I32 binary.DivU) =
    record { found = refl; simple = refl; wordlike = refl; nonempty = refl }
is_read_back (keyword.Binary type.I32 binary.RemS) =
    record { found = refl; simple = refl; wordlike = refl; nonempty = refl }
is_read_back (keyword.Binary type.I32 binary.RemU) =
    record { found = refl; simple = refl; wordlike = refl; nonempty = refl }
is_read_back (keyword.Binary type.I32 binary.And) =
    record { found = refl; simple = refl; wordlike = refl; nonempty = refl }
is_read_back (keyword.Binary type.I32 binary.Or) =
    record { found = refl; simple = refl; wordlike = refl; nonempty = refl }
is_read_back (keyword.Binary type.I32 binary.Xor) =
    record { found = refl; simple = refl; wordlike = refl; nonempty = refl }
is_read_back (keyword.Binary type.I32 binary.Shl) =
    record { found = refl; simple = refl; wordlike = refl; nonempty = refl }
is_read_back (keyword.Binary type.I32 binary.ShrS) =
    record { found = refl; simple = refl; wordlike = refl; nonempty = refl }
is_read_back (keyword.Binary type.I32 binary.ShrU) =
    record { found = refl; simple = refl; wordlike = refl; nonempty = refl }
is_read_back (keyword.Binary type.I32 binary.Rotl) =
    record { found = refl; simple = refl; wordlike = refl; nonempty = refl }
is_read_back (keyword.Binary type.I32 binary.Rotr) =
    record { found = refl; simple = refl; wordlike = refl; nonempty = refl }
is_read_back (keyword.Test type.I32 test.Eqz) = record { found = refl; simple = refl; wordlike = refl; nonempty = refl }
is_read_back (keyword.Compare type.I32 relation.Eq) =
    record { found = refl; simple = refl; wordlike = refl; nonempty = refl }
is_read_back (keyword.Compare type.I32 relation.Ne) =
    record { found = refl; simple = refl; wordlike = refl; nonempty = refl }
is_read_back (keyword.Compare type.I32 relation.LtS) =
    record { found = refl; simple = refl; wordlike = refl; nonempty = refl }
is_read_back (keyword.Compare type.I32 relation.LtU) =
    record { found = refl; simple = refl; wordlike = refl; nonempty = refl }
is_read_back (keyword.Compare type.I32 relation.GtS) =
    record { found = refl; simple = refl; wordlike = refl; nonempty = refl }
is_read_back (keyword.Compare type.I32 relation.GtU) =
    record { found = refl; simple = refl; wordlike = refl; nonempty = refl }
is_read_back (keyword.Compare type.I32 relation.LeS) =
    record { found = refl; simple = refl; wordlike = refl; nonempty = refl }
is_read_back (keyword.Compare type.I32 relation.LeU) =
    record { found = refl; simple = refl; wordlike = refl; nonempty = refl }
is_read_back (keyword.Compare type.I32 relation.GeS) =
    record { found = refl; simple = refl; wordlike = refl; nonempty = refl }
is_read_back (keyword.Compare type.I32 relation.GeU) =
    record { found = refl; simple = refl; wordlike = refl; nonempty = refl }
is_read_back (keyword.Const type.I64) = record { found = refl; simple = refl; wordlike = refl; nonempty = refl }
is_read_back (keyword.Unary type.I64 unary.Clz) =
    record { found = refl; simple = refl; wordlike = refl; nonempty = refl }
is_read_back (keyword.Unary type.I64 unary.Ctz) =
    record { found = refl; simple = refl; wordlike = refl; nonempty = refl }
is_read_back (keyword.Unary type.I64 unary.Popcnt) =
    record { found = refl; simple = refl; wordlike = refl; nonempty = refl }
is_read_back (keyword.Binary type.I64 binary.Add) =
    record { found = refl; simple = refl; wordlike = refl; nonempty = refl }
is_read_back (keyword.Binary type.I64 binary.Sub) =
    record { found = refl; simple = refl; wordlike = refl; nonempty = refl }
is_read_back (keyword.Binary type.I64 binary.Mul) =
    record { found = refl; simple = refl; wordlike = refl; nonempty = refl }
is_read_back (keyword.Binary type.I64 binary.DivS) =
    record { found = refl; simple = refl; wordlike = refl; nonempty = refl }
is_read_back (keyword.Binary type.I64 binary.DivU) =
    record { found = refl; simple = refl; wordlike = refl; nonempty = refl }
is_read_back (keyword.Binary type.I64 binary.RemS) =
    record { found = refl; simple = refl; wordlike = refl; nonempty = refl }
is_read_back (keyword.Binary type.I64 binary.RemU) =
    record { found = refl; simple = refl; wordlike = refl; nonempty = refl }
is_read_back (keyword.Binary type.I64 binary.And) =
    record { found = refl; simple = refl; wordlike = refl; nonempty = refl }
is_read_back (keyword.Binary type.I64 binary.Or) =
    record { found = refl; simple = refl; wordlike = refl; nonempty = refl }
is_read_back (keyword.Binary type.I64 binary.Xor) =
    record { found = refl; simple = refl; wordlike = refl; nonempty = refl }
is_read_back (keyword.Binary type.I64 binary.Shl) =
    record { found = refl; simple = refl; wordlike = refl; nonempty = refl }
is_read_back (keyword.Binary type.I64 binary.ShrS) =
    record { found = refl; simple = refl; wordlike = refl; nonempty = refl }
is_read_back (keyword.Binary type.I64 binary.ShrU) =
    record { found = refl; simple = refl; wordlike = refl; nonempty = refl }
is_read_back (keyword.Binary type.I64 binary.Rotl) =
    record { found = refl; simple = refl; wordlike = refl; nonempty = refl }
is_read_back (keyword.Binary type.I64 binary.Rotr) =
    record { found = refl; simple = refl; wordlike = refl; nonempty = refl }
is_read_back (keyword.Test type.I64 test.Eqz) = record { found = refl; simple = refl; wordlike = refl; nonempty = refl }
is_read_back (keyword.Compare type.I64 relation.Eq) =
    record { found = refl; simple = refl; wordlike = refl; nonempty = refl }
is_read_back (keyword.Compare type.I64 relation.Ne) =
    record { found = refl; simple = refl; wordlike = refl; nonempty = refl }
is_read_back (keyword.Compare type.I64 relation.LtS) =
    record { found = refl; simple = refl; wordlike = refl; nonempty = refl }
is_read_back (keyword.Compare type.I64 relation.LtU) =
    record { found = refl; simple = refl; wordlike = refl; nonempty = refl }
is_read_back (keyword.Compare type.I64 relation.GtS) =
    record { found = refl; simple = refl; wordlike = refl; nonempty = refl }
is_read_back (keyword.Compare type.I64 relation.GtU) =
    record { found = refl; simple = refl; wordlike = refl; nonempty = refl }
is_read_back (keyword.Compare type.I64 relation.LeS) =
    record { found = refl; simple = refl; wordlike = refl; nonempty = refl }
is_read_back (keyword.Compare type.I64 relation.LeU) =
    record { found = refl; simple = refl; wordlike = refl; nonempty = refl }
is_read_back (keyword.Compare type.I64 relation.GeS) =
    record { found = refl; simple = refl; wordlike = refl; nonempty = refl }
is_read_back (keyword.Compare type.I64 relation.GeU) =
    record { found = refl; simple = refl; wordlike = refl; nonempty = refl }
is_read_back (keyword.Convert convert.Wrap) = record { found = refl; simple = refl; wordlike = refl; nonempty = refl }
is_read_back (keyword.Convert convert.ExtendS) =
    record { found = refl; simple = refl; wordlike = refl; nonempty = refl }
is_read_back (keyword.Convert convert.ExtendU) =
    record { found = refl; simple = refl; wordlike = refl; nonempty = refl }
is_read_back (keyword.Convert convert.I32From8S) =
    record { found = refl; simple = refl; wordlike = refl; nonempty = refl }
is_read_back (keyword.Convert convert.I32From16S) =
    record { found = refl; simple = refl; wordlike = refl; nonempty = refl }
is_read_back (keyword.Convert convert.I64From8S) =
    record { found = refl; simple = refl; wordlike = refl; nonempty = refl }
is_read_back (keyword.Convert convert.I64From16S) =
    record { found = refl; simple = refl; wordlike = refl; nonempty = refl }
is_read_back (keyword.Convert convert.I64From32S) =
    record { found = refl; simple = refl; wordlike = refl; nonempty = refl }
