-- The ranges of the numbers in a module (2.2.2): an index or an i32 is below 2^32, an i64 below 2^64; and
-- its names are UTF-8 (2.2.4).
use Rattle.std.specs.Prelude.{ℕ, ◌<◌, ◌^◌, All, IsUtf8, IfSome}
use Rattle.wasm_ast.specs.declared.values.Value.{Value}
use Rattle.wasm_ast.specs.declared.values.Value.TheVariants.{I32, I64}
use Rattle.wasm_ast.specs.declared.instr.BlockType.{BlockType}
use Rattle.wasm_ast.specs.declared.instr.BlockType.TheVariants.{Index}
use Rattle.wasm_ast.specs.declared.instr.Simple.{Simple}
use Rattle.wasm_ast.specs.declared.instr.Simple.TheVariants.{Br, BrIf, BrTable, Call, CallIndirect, Local, Global, Load, Store, Const}
use Rattle.wasm_ast.specs.declared.instr.MemArg.{MemArg}
use Rattle.wasm_ast.specs.declared.module.Limits.{Limits}
use Rattle.wasm_ast.specs.declared.module.Global as declared_global
use Rattle.wasm_ast.specs.declared.module.Element.{Element}
use Rattle.wasm_ast.specs.declared.module.Segment.{Segment}
use Rattle.wasm_ast.specs.declared.module.Import.{Import}
use Rattle.wasm_ast.specs.declared.module.Func.{Func}
use Rattle.wasm_ast.specs.declared.module.Export.{Export}
use Rattle.wasm_ast.specs.declared.module.Module.{Module}
use Rattle.wasm_ast.specs.Syntax.{Op, simple, block, loop, if', Ops, stop, next}

abbrev pub IsU32 : ℕ → Type 0
IsU32 n = n < 2 ^ 32

abbrev pub RangedValue : Value → Type 0
RangedValue (I32 n) = n < 2 ^ 32
RangedValue (I64 n) = n < 2 ^ 64

abbrev pub RangedMemArg : MemArg → Type 0
RangedMemArg at = IsU32 at.align × IsU32 at.offset

abbrev pub RangedSimple : Simple → Type 0
RangedSimple (Br label) = IsU32 label
RangedSimple (BrIf label) = IsU32 label
RangedSimple (BrTable other labels) = All IsU32 labels × IsU32 other
RangedSimple (Call func) = IsU32 func
RangedSimple (CallIndirect type) = IsU32 type
RangedSimple (Local op index) = IsU32 index
RangedSimple (Global op index) = IsU32 index
RangedSimple (Load op at) = RangedMemArg at
RangedSimple (Store op at) = RangedMemArg at
RangedSimple (Const value) = RangedValue value
-- those without a number
RangedSimple _ = Unit {0}

abbrev pub RangedBlockType : BlockType → Type 0
RangedBlockType (Index type) = IsU32 type
-- those without a number
RangedBlockType _ = Unit {0}

abbrev mutual
  pub RangedOp : Op → Type 0
  RangedOp (simple s) = RangedSimple s
  RangedOp (block type body) = RangedBlockType type × RangedOps body
  RangedOp (loop type body) = RangedBlockType type × RangedOps body
  RangedOp (if' type then_arm else_arm) =
      RangedBlockType type × RangedOps then_arm × RangedOps else_arm

  pub RangedOps : Ops → Type 0
  RangedOps stop = Unit {0}
  RangedOps (next o os) = RangedOp o × RangedOps os

abbrev pub RangedImport : Import → Type 0
RangedImport i = IsU32 i.type_index

abbrev pub RangedFunc : Func → Type 0
RangedFunc f = IsU32 f.type_index × RangedOps f.body

abbrev pub RangedLimits : Limits → Type 0
RangedLimits l = IsU32 l.min × IfSome l.max IsU32

abbrev pub RangedGlobal : declared_global.Global → Type 0
RangedGlobal g = RangedOps g.init

abbrev pub RangedElement : Element → Type 0
RangedElement e = IsU32 e.table × RangedOps e.offset × All IsU32 e.funcs

abbrev pub RangedSegment : Segment → Type 0
RangedSegment s = IsU32 s.memory × RangedOps s.offset

abbrev pub RangedExport : Export → Type 0
RangedExport e = IsU32 e.index

pub record Ranged (m : Module) : Type 0 where
  pub imports : All RangedImport m.imports
  pub funcs : All RangedFunc m.funcs
  pub tables : All RangedLimits m.tables
  pub memories : All RangedLimits m.memories
  pub globals : All RangedGlobal m.globals
  pub exports : All RangedExport m.exports
  pub start : IfSome m.start IsU32
  pub elements : All RangedElement m.elements
  pub segments : All RangedSegment m.segments

abbrev pub HasImportTexts : Import → Type 0
HasImportTexts i = IsUtf8 i.module × IsUtf8 i.name

abbrev pub HasExportText : Export → Type 0
HasExportText e = IsUtf8 e.name

-- the names of a module are texts
pub record AreTexts (m : Module) : Type 0 where
  pub imports : All HasImportTexts m.imports
  pub exports : All HasExportText m.exports
