-- Each instruction without a body is found by its opcode, up to its numbers.
use Rattle.std.proofs.Common.{◌≡◌, ℕ, [], Option, Some, None, false, eqb, refl, sym, ap, ◌∙◌}
use Rattle.std.proofs.lemmas.Bool.{eqb-true}
use Rattle.wasm_ast.specs.declared.instr.Simple.{Simple}
use Rattle.wasm_ast.specs.declared.instr.Simple.TheVariants.{Unreachable, Nop, Br, BrIf, BrTable, Return, Call, CallIndirect, Drop, Select, Local, Global, Load, Store, MemorySize, MemoryGrow, Const, Unary, Binary, Test, Compare, Convert}
use Rattle.wasm_ast.specs.declared.instr.LocalOp.TheVariants as local
use Rattle.wasm_ast.specs.declared.instr.GlobalOp.TheVariants as global
use Rattle.wasm_ast.specs.declared.operators.LoadOp.TheVariants as load
use Rattle.wasm_ast.specs.declared.operators.StoreOp.TheVariants as store
use Rattle.wasm_ast.specs.declared.operators.UnaryOp.TheVariants as unary
use Rattle.wasm_ast.specs.declared.operators.BinaryOp.TheVariants as binary
use Rattle.wasm_ast.specs.declared.operators.TestOp.TheVariants as test
use Rattle.wasm_ast.specs.declared.operators.RelationOp.TheVariants as relation
use Rattle.wasm_ast.specs.declared.operators.ConvertOp.TheVariants as convert
use Rattle.wasm_ast.specs.declared.values.ValType.TheVariants as type
use Rattle.wasm_ast.specs.declared.values.Value.TheVariants as value
use Rattle.wasm_binary.specs.Opcodes.{opcode}
use Rattle.wasm_binary.specs.Inside.Reading.{no_offset, find_opcode, arithmetic_of, comparison_of, instruction_of}
use Rattle.wasm_binary.proofs.ReadComplete.{false_by}

-- the same instruction with zeros for its numbers
abbrev pub blank : Simple → Simple
blank (Br label) = Br 0
blank (BrIf label) = BrIf 0
blank (BrTable other labels) = BrTable 0 []
blank (Call func) = Call 0
blank (CallIndirect index) = CallIndirect 0
blank (Local op index) = Local op 0
blank (Global op index) = Global op 0
blank (Load op at) = Load op no_offset
blank (Store op at) = Store op no_offset
blank (Const (value.I32 n)) = Const (value.I32 0)
blank (Const (value.I64 n)) = Const (value.I64 0)
blank s = s

pub found_by : (s : Simple) → instruction_of (opcode s) ≡ Some (blank s)
unfolding instruction_of comparison_of arithmetic_of find_opcode
found_by Unreachable = refl
found_by Nop = refl
found_by (Br n) = refl
found_by (BrIf n) = refl
found_by (BrTable l ls) = refl
found_by Return = refl
found_by (Call n) = refl
found_by (CallIndirect n) = refl
found_by Drop = refl
found_by Select = refl
found_by (Local local.Get n) = refl
found_by (Local local.Set n) = refl
found_by (Local local.Tee n) = refl
found_by (Global global.Get n) = refl
found_by (Global global.Set n) = refl
found_by (Load load.I32 at) = refl
found_by (Load load.I64 at) = refl
found_by (Load load.I32From8S at) = refl
found_by (Load load.I32From8U at) = refl
found_by (Load load.I32From16S at) = refl
found_by (Load load.I32From16U at) = refl
found_by (Load load.I64From8S at) = refl
found_by (Load load.I64From8U at) = refl
found_by (Load load.I64From16S at) = refl
found_by (Load load.I64From16U at) = refl
found_by (Load load.I64From32S at) = refl
found_by (Load load.I64From32U at) = refl
found_by (Store store.I32 at) = refl
found_by (Store store.I64 at) = refl
found_by (Store store.I32To8 at) = refl
found_by (Store store.I32To16 at) = refl
found_by (Store store.I64To8 at) = refl
found_by (Store store.I64To16 at) = refl
found_by (Store store.I64To32 at) = refl
found_by MemorySize = refl
found_by MemoryGrow = refl
found_by (Const (value.I32 n)) = refl
found_by (Const (value.I64 n)) = refl
found_by (Test type.I32 test.Eqz) = refl
found_by (Compare type.I32 relation.Eq) = refl
found_by (Compare type.I32 relation.Ne) = refl
found_by (Compare type.I32 relation.LtS) = refl
found_by (Compare type.I32 relation.LtU) = refl
found_by (Compare type.I32 relation.GtS) = refl
found_by (Compare type.I32 relation.GtU) = refl
found_by (Compare type.I32 relation.LeS) = refl
found_by (Compare type.I32 relation.LeU) = refl
found_by (Compare type.I32 relation.GeS) = refl
found_by (Compare type.I32 relation.GeU) = refl
found_by (Test type.I64 test.Eqz) = refl
found_by (Compare type.I64 relation.Eq) = refl
found_by (Compare type.I64 relation.Ne) = refl
found_by (Compare type.I64 relation.LtS) = refl
found_by (Compare type.I64 relation.LtU) = refl
found_by (Compare type.I64 relation.GtS) = refl
found_by (Compare type.I64 relation.GtU) = refl
found_by (Compare type.I64 relation.LeS) = refl
found_by (Compare type.I64 relation.LeU) = refl
found_by (Compare type.I64 relation.GeS) = refl
found_by (Compare type.I64 relation.GeU) = refl
found_by (Unary type.I32 unary.Clz) = refl
found_by (Unary type.I32 unary.Ctz) = refl
found_by (Unary type.I32 unary.Popcnt) = refl
found_by (Binary type.I32 binary.Add) = refl
found_by (Binary type.I32 binary.Sub) = refl
found_by (Binary type.I32 binary.Mul) = refl
found_by (Binary type.I32 binary.DivS) = refl
found_by (Binary type.I32 binary.DivU) = refl
found_by (Binary type.I32 binary.RemS) = refl
found_by (Binary type.I32 binary.RemU) = refl
found_by (Binary type.I32 binary.And) = refl
found_by (Binary type.I32 binary.Or) = refl
found_by (Binary type.I32 binary.Xor) = refl
found_by (Binary type.I32 binary.Shl) = refl
found_by (Binary type.I32 binary.ShrS) = refl
found_by (Binary type.I32 binary.ShrU) = refl
found_by (Binary type.I32 binary.Rotl) = refl
found_by (Binary type.I32 binary.Rotr) = refl
found_by (Unary type.I64 unary.Clz) = refl
found_by (Unary type.I64 unary.Ctz) = refl
found_by (Unary type.I64 unary.Popcnt) = refl
found_by (Binary type.I64 binary.Add) = refl
found_by (Binary type.I64 binary.Sub) = refl
found_by (Binary type.I64 binary.Mul) = refl
found_by (Binary type.I64 binary.DivS) = refl
found_by (Binary type.I64 binary.DivU) = refl
found_by (Binary type.I64 binary.RemS) = refl
found_by (Binary type.I64 binary.RemU) = refl
found_by (Binary type.I64 binary.And) = refl
found_by (Binary type.I64 binary.Or) = refl
found_by (Binary type.I64 binary.Xor) = refl
found_by (Binary type.I64 binary.Shl) = refl
found_by (Binary type.I64 binary.ShrS) = refl
found_by (Binary type.I64 binary.ShrU) = refl
found_by (Binary type.I64 binary.Rotl) = refl
found_by (Binary type.I64 binary.Rotr) = refl
found_by (Convert convert.Wrap) = refl
found_by (Convert convert.ExtendS) = refl
found_by (Convert convert.ExtendU) = refl
found_by (Convert convert.I32From8S) = refl
found_by (Convert convert.I32From16S) = refl
found_by (Convert convert.I64From8S) = refl
found_by (Convert convert.I64From16S) = refl
found_by (Convert convert.I64From32S) = refl

-- a byte that is no opcode of these
pub not_opcode : (s : Simple) (b : ℕ) → instruction_of b ≡ None → eqb (opcode s) b ≡ false
not_opcode s b none = false_by (eqb (opcode s) b) (λ e.
    let same : instruction_of (opcode s) ≡ instruction_of b = ap instruction_of (eqb-true (opcode s) b e) in
    let k : ◌≡◌ {A = Option Simple} (Some (blank s)) None = sym (found_by s) ∙ same ∙ none in
    absurd cc)
