-- The binary format (5.3 to 5.5), by cases. IsX bytes x rest: the bytes begin with an encoding of x,
-- and the rest follows it.
use Rattle.std.specs.Prelude.{◌≡◌, ℕ, ◌^◌, ◌<◌, List, [], ◌∷◌, ◌++◌, length, map, replicate, Option, Some, None, IsUtf8, ◌⊎◌}
use Rattle.std.specs.List.{flat_map}
use Rattle.wasm_ast.specs.declared.values.ValType.{ValType}
use Rattle.wasm_ast.specs.declared.values.FuncType.{FuncType}
use Rattle.wasm_ast.specs.declared.values.Value.TheVariants.{I32, I64}
use Rattle.wasm_ast.specs.declared.instr.BlockType.{BlockType}
use Rattle.wasm_ast.specs.declared.instr.BlockType.TheVariants.{Empty, One, Index}
use Rattle.wasm_ast.specs.declared.instr.MemArg.{MemArg}
use Rattle.wasm_ast.specs.declared.instr.Simple.{Simple}
use Rattle.wasm_ast.specs.declared.instr.Simple.TheVariants.{Br, BrIf, BrTable, Call, CallIndirect, Local, Global, Load, Store, MemorySize, MemoryGrow, Const}
use Rattle.wasm_ast.specs.declared.module.Limits.{Limits}
use Rattle.wasm_ast.specs.declared.module.Global as declared_global
use Rattle.wasm_ast.specs.declared.module.Element.{Element}
use Rattle.wasm_ast.specs.declared.module.Segment.{Segment}
use Rattle.wasm_ast.specs.declared.module.Import.{Import}
use Rattle.wasm_ast.specs.declared.module.Func.{Func}
use Rattle.wasm_ast.specs.declared.module.ExportKind.TheVariants as kinds
use Rattle.wasm_ast.specs.declared.module.Export.{Export}
use Rattle.wasm_ast.specs.declared.module.Module.{Module}
use Rattle.wasm_ast.specs.Syntax.{Op, simple, block, loop, if', Ops, stop, next}
use Rattle.wasm_binary.specs.Numbers.{IsU32, IsSigned}
use Rattle.wasm_binary.specs.Opcodes.{type_byte, func_type_byte, empty_byte, min_byte, min_max_byte, table_type_byte, mutability_byte, block_byte, loop_byte, if_byte, else_byte, end_byte, opcode, reserved_byte, kind_byte, custom_section, type_section, import_section, function_section, table_section, memory_section, global_section, export_section, start_section, element_section, code_section, data_section, preamble}

-- what encodes an X
abbrev pub Form : Type 0 → Type 1
Form X = (bytes : List ℕ) → (x : X) → (rest : List ℕ) → Type 0

-- items, one after the other
abbrev pub AreItems : {X : Type 0} → Form X → Form (List X)
AreItems IsX bytes [] rest = rest ≡ bytes
AreItems IsX bytes (x ∷ xs) rest = (mid : List ℕ) × IsX bytes x mid × AreItems IsX mid xs rest

-- a vector: the count, and that many items (5.1.3)
abbrev pub IsVector : {X : Type 0} → Form X → Form (List X)
IsVector IsX bytes xs rest = (mid : List ℕ) × IsU32 bytes (length xs) mid × AreItems IsX mid xs rest

-- a size, and a part of exactly that size
abbrev pub IsSized : {X : Type 0} → Form X → Form X
IsSized IsX bytes x rest =
    (part : List ℕ) × (mid : List ℕ) × IsU32 bytes (length part) mid
    × (mid ≡ part ++ rest) × IsX part x []

-- a vector of bytes
abbrev pub AreBytes : Form (List ℕ)
AreBytes bytes xs rest = (mid : List ℕ) × IsU32 bytes (length xs) mid × (mid ≡ xs ++ rest)

-- a name: a vector of bytes that are UTF-8 (5.2.4)
abbrev pub IsName : Form (List ℕ)
IsName bytes name rest = AreBytes bytes name rest × IsUtf8 name

-- ---- types (5.3)

abbrev pub IsValType : Form ValType
IsValType bytes t rest = bytes ≡ type_byte t ∷ rest

abbrev pub IsFuncType : Form FuncType
IsFuncType bytes t rest =
    (from : List ℕ) × (mid : List ℕ) × (bytes ≡ func_type_byte ∷ from)
    × IsVector IsValType from t.params mid
    × IsVector IsValType mid t.results rest

-- The type of a block (5.4.1; by index Core 2.0, 5.4.1). The index of a type is a signed number of 33 bits
-- that is not negative; a negative one, which is from 2 ^ 32 on here, is no type of a block.
abbrev pub IsBlockType : Form BlockType
IsBlockType bytes Empty rest = bytes ≡ empty_byte ∷ rest
IsBlockType bytes (One t) rest = IsValType bytes t rest
IsBlockType bytes (Index i) rest = IsSigned 33 bytes i rest × (i < 2 ^ 32)

-- a first size, and a largest one if there is one (5.3.4)
abbrev pub AreSizes : (bytes : List ℕ) → (min : ℕ) → (max : Option ℕ) → (rest : List ℕ) → Type 0
AreSizes bytes min None rest = (from : List ℕ) × (bytes ≡ min_byte ∷ from) × IsU32 from min rest
AreSizes bytes min (Some max) rest =
    (from : List ℕ) × (mid : List ℕ) × (bytes ≡ min_max_byte ∷ from) × IsU32 from min mid
    × IsU32 mid max rest

abbrev pub IsLimits : Form Limits
IsLimits bytes l rest = AreSizes bytes l.min l.max rest

-- ---- instructions (5.4)

-- the exponent of the alignment, and the offset (5.4.4)
abbrev pub IsMemArg : Form MemArg
IsMemArg bytes at rest = (mid : List ℕ) × IsU32 bytes at.align mid × IsU32 mid at.offset rest

-- what follows the opcode of an instruction without a body
abbrev pub AreImmediates : Form Simple
AreImmediates bytes (Br label) rest = IsU32 bytes label rest
AreImmediates bytes (BrIf label) rest = IsU32 bytes label rest
AreImmediates bytes (BrTable other labels) rest =
    (mid : List ℕ) × IsVector IsU32 bytes labels mid × IsU32 mid other rest
AreImmediates bytes (Call func) rest = IsU32 bytes func rest
AreImmediates bytes (CallIndirect index) rest = IsU32 bytes index (reserved_byte ∷ rest)
AreImmediates bytes (Local op index) rest = IsU32 bytes index rest
AreImmediates bytes (Global op index) rest = IsU32 bytes index rest
AreImmediates bytes (Load op at) rest = IsMemArg bytes at rest
AreImmediates bytes (Store op at) rest = IsMemArg bytes at rest
AreImmediates bytes MemorySize rest = bytes ≡ reserved_byte ∷ rest
AreImmediates bytes MemoryGrow rest = bytes ≡ reserved_byte ∷ rest
AreImmediates bytes (Const (I32 n)) rest = IsSigned 32 bytes n rest
AreImmediates bytes (Const (I64 n)) rest = IsSigned 64 bytes n rest
-- nothing follows the others
AreImmediates bytes _ rest = rest ≡ bytes

-- an instruction without a body
abbrev pub IsSimple : Form Simple
IsSimple bytes s rest = (from : List ℕ) × (bytes ≡ opcode s ∷ from) × AreImmediates from s rest

-- An instruction. An if with an empty else arm may be without an else.
abbrev mutual
  pub IsOp : Form Op
  IsOp bytes (simple s) rest = IsSimple bytes s rest
  IsOp bytes (block type body) rest =
      (from : List ℕ) × (mid : List ℕ) × (bytes ≡ block_byte ∷ from) × IsBlockType from type mid
      × AreOps mid body (end_byte ∷ rest)
  IsOp bytes (loop type body) rest =
      (from : List ℕ) × (mid : List ℕ) × (bytes ≡ loop_byte ∷ from) × IsBlockType from type mid
      × AreOps mid body (end_byte ∷ rest)
  IsOp bytes (if' type then_arm else_arm) rest =
      (from : List ℕ) × (mid : List ℕ) × (bytes ≡ if_byte ∷ from) × IsBlockType from type mid
      × ((AreOps mid then_arm (end_byte ∷ rest) × (else_arm ≡ stop))
      ⊎ ((from_else : List ℕ) × AreOps mid then_arm (else_byte ∷ from_else)
      × AreOps from_else else_arm (end_byte ∷ rest)))

  pub AreOps : Form Ops
  AreOps bytes stop rest = rest ≡ bytes
  AreOps bytes (next o os) rest = (mid : List ℕ) × IsOp bytes o mid × AreOps mid os rest

-- instructions and their end (5.4.6)
abbrev pub IsExpression : Form Ops
IsExpression bytes os rest = AreOps bytes os (end_byte ∷ rest)

-- ---- code (5.5.13)

-- a run of locals of one type: how many, and the type
abbrev pub IsRun : Form (ℕ × ValType)
IsRun bytes run rest = (mid : List ℕ) × IsU32 bytes run.0 mid × IsValType mid run.1 rest

abbrev pub locals_of : List (ℕ × ValType) → List ValType
locals_of runs = flat_map (λ run. replicate run.0 run.1) runs

-- the locals of all runs in order, fewer than 2 ^ 32
abbrev pub AreLocals : Form (List ValType)
AreLocals bytes locals rest =
    (runs : List (ℕ × ValType)) × IsVector IsRun bytes runs rest × (locals ≡ locals_of runs)
    × (length locals < 2 ^ 32)

-- locals and a body; the function's type is in the function section
abbrev pub IsCode : Form Func
IsCode bytes f rest = (mid : List ℕ) × AreLocals bytes f.locals mid × IsExpression mid f.body rest

abbrev pub IsEntry : Form Func
IsEntry = IsSized IsCode

-- ---- the items of the other sections

-- an import of a function (5.5.5); the profile has no other kind
abbrev pub IsImport : Form Import
IsImport bytes i rest =
    (from_name : List ℕ) × (from_kind : List ℕ) × (from_type : List ℕ)
    × IsName bytes i.module from_name
    × IsName from_name i.name from_kind × (from_kind ≡ kind_byte kinds.Func ∷ from_type)
    × IsU32 from_type i.type_index rest

-- a table (5.5.7)
abbrev pub IsTable : Form Limits
IsTable bytes l rest = (from : List ℕ) × (bytes ≡ table_type_byte ∷ from) × IsLimits from l rest

-- a memory (5.5.8)
abbrev pub IsMemory : Form Limits
IsMemory = IsLimits

-- a global (5.5.9)
abbrev pub IsGlobal : Form declared_global.Global
IsGlobal bytes g rest =
    (from : List ℕ) × (mid : List ℕ) × IsValType bytes g.val_type from
    × (from ≡ mutability_byte g.mutability ∷ mid)
    × IsExpression mid g.init rest

-- an export (5.5.10)
abbrev pub IsExport : Form Export
IsExport bytes e rest =
    (from_kind : List ℕ) × (from_index : List ℕ) × IsName bytes e.name from_kind
    × (from_kind ≡ kind_byte e.kind ∷ from_index) × IsU32 from_index e.index rest

-- the start function (5.5.11)
abbrev pub IsStart : Form (Option ℕ)
IsStart bytes None rest = ⊥
IsStart bytes (Some func) rest = IsU32 bytes func rest

-- an element segment (5.5.12)
abbrev pub IsElement : Form Element
IsElement bytes e rest =
    (from : List ℕ) × (mid : List ℕ) × IsU32 bytes e.table from × IsExpression from e.offset mid
    × IsVector IsU32 mid e.funcs rest

-- a data segment (5.5.14)
abbrev pub IsSegment : Form Segment
IsSegment bytes s rest =
    (from : List ℕ) × (mid : List ℕ) × IsU32 bytes s.memory from × IsExpression from s.offset mid
    × AreBytes mid s.bytes rest

-- ---- sections (5.5.2, 5.5.3)

-- the contents of a custom section: its name, and any bytes
abbrev pub IsNamed : Form (List ℕ × List ℕ)
IsNamed bytes x rest = IsName bytes x.0 x.1 × (rest ≡ [])

abbrev pub IsCustom : Form (List ℕ × List ℕ)
IsCustom bytes x rest =
    (from : List ℕ) × (bytes ≡ custom_section ∷ from) × IsSized IsNamed from x rest

-- any number of custom sections; they mean nothing
abbrev pub AreCustom : (bytes : List ℕ) → (rest : List ℕ) → Type 0
AreCustom bytes rest = (xs : List (List ℕ × List ℕ)) × AreItems IsCustom bytes xs rest

-- the section of this id and the custom sections that follow it; or no byte, which means the empty value
abbrev pub IsPart : {X : Type 0} → (id : ℕ) → Form X → (empty : X) → Form X
IsPart id IsX empty bytes x rest =
    ((from : List ℕ) × (after : List ℕ) × (bytes ≡ id ∷ from) × IsSized IsX from x after
    × AreCustom after rest)
    ⊎ ((x ≡ empty) × (rest ≡ bytes))

abbrev pub IsSection : {X : Type 0} → (id : ℕ) → Form X → Form (List X)
IsSection id IsX = IsPart id (IsVector IsX) []

-- ---- modules (5.5.15)

abbrev pub indices_of : List Func → List ℕ
indices_of = map (λ f. f.type_index)

-- The front of a module, up to and with a section. It fixes the fields of m that it names; the others may
-- be anything. Custom sections may come anywhere.

-- the first, and then the next, of one module
abbrev pub Then : Form Module → Form Module → Form Module
Then IsFirst IsNext bytes m rest = (from : List ℕ) × IsFirst bytes m from × IsNext from m rest

-- the preamble, and custom sections
abbrev pub UpToPreamble : Form Module
UpToPreamble bytes m rest = (from : List ℕ) × (bytes ≡ preamble ++ from) × AreCustom from rest

abbrev pub UpToTypes : Form Module
UpToTypes = Then UpToPreamble (λ from m. IsSection type_section IsFuncType from m.types)

abbrev pub UpToImports : Form Module
UpToImports = Then UpToTypes (λ from m. IsSection import_section IsImport from m.imports)

-- the function section has the functions' types, and the code section the rest of them
abbrev pub UpToFunctions : Form Module
UpToFunctions =
    Then UpToImports (λ from m. IsSection function_section IsU32 from (indices_of m.funcs))

abbrev pub UpToTables : Form Module
UpToTables = Then UpToFunctions (λ from m. IsSection table_section IsTable from m.tables)

abbrev pub UpToMemories : Form Module
UpToMemories = Then UpToTables (λ from m. IsSection memory_section IsMemory from m.memories)

abbrev pub UpToGlobals : Form Module
UpToGlobals = Then UpToMemories (λ from m. IsSection global_section IsGlobal from m.globals)

abbrev pub UpToExports : Form Module
UpToExports = Then UpToGlobals (λ from m. IsSection export_section IsExport from m.exports)

abbrev pub UpToStart : Form Module
UpToStart = Then UpToExports (λ from m. IsPart start_section IsStart None from m.start)

abbrev pub UpToElements : Form Module
UpToElements = Then UpToStart (λ from m. IsSection element_section IsElement from m.elements)

abbrev pub UpToCodes : Form Module
UpToCodes = Then UpToElements (λ from m. IsSection code_section IsEntry from m.funcs)

-- the bytes are a module's
pub record Spells (bytes : List ℕ) (m : Module) : Type 0 where
  pub from_segments : List ℕ
  pub before : UpToCodes bytes m from_segments
  pub segments : IsSection data_section IsSegment from_segments m.segments []
