-- The canonical encoding of a module: shortest numbers, locals in longest runs of one type, no custom
-- section, no empty section, and no empty else arm.
use Rattle.std.specs.Prelude.{◌≢◌, ℕ, zero, suc, ◌+◌, ◌-◌, ◌*◌, ◌/◌, ◌%◌, ◌^◌, ◌<◌, ◌≤◌, List, [], ◌∷◌, ◌++◌, length, fold, Bool, true, false, Option, Some, None, nat_lt, nat_le, if◌then◌else◌}
use Rattle.std.specs.List.{flat_map}
use Rattle.wasm_ast.specs.declared.values.ValType.{ValType}
use Rattle.wasm_ast.specs.declared.values.FuncType.{FuncType}
use Rattle.wasm_ast.specs.Types.{is_same_type}
use Rattle.wasm_ast.specs.declared.values.Value.TheVariants.{I32, I64}
use Rattle.wasm_ast.specs.declared.instr.BlockType.{BlockType}
use Rattle.wasm_ast.specs.declared.instr.BlockType.TheVariants.{Empty, One, Index}
use Rattle.wasm_ast.specs.declared.instr.MemArg.{MemArg}
use Rattle.wasm_ast.specs.declared.instr.Simple.{Simple}
use Rattle.wasm_ast.specs.declared.instr.Simple.TheVariants.{Br, BrIf, BrTable, Call, CallIndirect, Local, Global, Load, Store, MemorySize, MemoryGrow, Const}
use Rattle.wasm_ast.specs.declared.module.Limits.{Limits}
use Rattle.wasm_ast.specs.declared.module.Global as declared_global
use Rattle.wasm_ast.specs.declared.module.Element.{Element}
use Rattle.wasm_ast.specs.declared.module.Segment.{Segment}
use Rattle.wasm_ast.specs.declared.module.Import.{Import}
use Rattle.wasm_ast.specs.declared.module.Func.{Func}
use Rattle.wasm_ast.specs.declared.module.ExportKind.TheVariants as kinds
use Rattle.wasm_ast.specs.declared.module.Export.{Export}
use Rattle.wasm_ast.specs.declared.module.Module.{Module}
use Rattle.wasm_ast.specs.Syntax.{Op, simple, block, loop, if', Ops, stop, next}
use Rattle.wasm_ast.specs.Limits.{max_module_bytes, Within}
use Rattle.wasm_binary.specs.Opcodes.{type_byte, func_type_byte, empty_byte, min_byte, min_max_byte, table_type_byte, mutability_byte, block_byte, loop_byte, if_byte, else_byte, end_byte, opcode, reserved_byte, kind_byte, type_section, import_section, function_section, table_section, memory_section, global_section, export_section, start_section, element_section, code_section, data_section, preamble}
use Rattle.wasm_binary.specs.Grammar.{indices_of}

-- ---- numbers

-- an unsigned number in the fewest bytes, one and at most this many more
unfoldable pub canon_unsigned : (more : ℕ) → ℕ → List ℕ
canon_unsigned zero n = n ∷ []
canon_unsigned (suc more) n =
    if nat_lt n 128 then n ∷ [] else (128 + n % 128) ∷ canon_unsigned more (n / 128)

-- A signed number is given as its two's complement in that many bits. The last byte of one that is not
-- below 0 is below 64, and the last byte of one below 0 is from 64 to 127.
abbrev pub last_signed : (bits : ℕ) → ℕ → ℕ
last_signed bits n = if nat_lt (2 * n) (2 ^ bits) then n else (n + 128) - 2 ^ bits

-- whether one byte holds it: it is from -64 to 63
abbrev pub is_last_signed : (bits : ℕ) → ℕ → Bool
is_last_signed bits n =
    if nat_lt (2 * n) (2 ^ bits) then nat_lt n 64 else nat_le (2 ^ bits) (n + 64)

unfoldable pub canon_signed : (more bits : ℕ) → ℕ → List ℕ
canon_signed zero bits n = last_signed bits n ∷ []
canon_signed (suc more) bits n =
    if is_last_signed bits n then last_signed bits n ∷ []
    else (128 + n % 128) ∷ canon_signed more (bits - 7) (n / 128)

abbrev pub canon_number : ℕ → List ℕ
canon_number n = canon_unsigned 9 n

-- ---- vectors, sizes and names

abbrev pub canon_vector : {X : Type 0} → (X → List ℕ) → List X → List ℕ
canon_vector encoding xs = canon_number (length xs) ++ flat_map encoding xs

abbrev pub canon_sized : List ℕ → List ℕ
canon_sized part = canon_number (length part) ++ part

abbrev pub canon_name : List ℕ → List ℕ
canon_name text = canon_sized text

-- ---- types

abbrev pub canon_val_type : ValType → List ℕ
canon_val_type t = type_byte t ∷ []

abbrev pub canon_func_type : FuncType → List ℕ
canon_func_type t =
    func_type_byte ∷ (canon_vector canon_val_type t.params ++ canon_vector canon_val_type t.results)

abbrev pub canon_block_type : BlockType → List ℕ
canon_block_type Empty = empty_byte ∷ []
canon_block_type (One t) = canon_val_type t
canon_block_type (Index i) = canon_signed 4 33 i

-- a first size, and a largest one if there is one
abbrev pub canon_sizes : (min : ℕ) → (max : Option ℕ) → List ℕ
canon_sizes min None = min_byte ∷ canon_number min
canon_sizes min (Some max) = min_max_byte ∷ (canon_number min ++ canon_number max)

abbrev pub canon_limits : Limits → List ℕ
canon_limits l = canon_sizes l.min l.max

-- ---- instructions

abbrev pub canon_mem_arg : MemArg → List ℕ
canon_mem_arg at = canon_number at.align ++ canon_number at.offset

-- what follows the opcode
abbrev pub canon_immediates : Simple → List ℕ
canon_immediates (Br label) = canon_number label
canon_immediates (BrIf label) = canon_number label
canon_immediates (BrTable other labels) = canon_vector canon_number labels ++ canon_number other
canon_immediates (Call func) = canon_number func
canon_immediates (CallIndirect index) = canon_number index ++ reserved_byte ∷ []
canon_immediates (Local op index) = canon_number index
canon_immediates (Global op index) = canon_number index
canon_immediates (Load op at) = canon_mem_arg at
canon_immediates (Store op at) = canon_mem_arg at
canon_immediates MemorySize = reserved_byte ∷ []
canon_immediates MemoryGrow = reserved_byte ∷ []
canon_immediates (Const (I32 n)) = canon_signed 4 32 n
canon_immediates (Const (I64 n)) = canon_signed 9 64 n
canon_immediates _ = []

abbrev pub canon_simple : Simple → List ℕ
canon_simple s = opcode s ∷ canon_immediates s

-- what separates the arms of an if: nothing where the else arm is empty
abbrev pub canon_else : Ops → List ℕ
canon_else stop = []
canon_else (next o os) = else_byte ∷ []

abbrev mutual
  pub canon_op : Op → List ℕ
  canon_op (simple s) = canon_simple s
  canon_op (block type body) = block_byte ∷ canon_block_type type ++ canon_ops body ++ end_byte ∷ []
  canon_op (loop type body) = loop_byte ∷ canon_block_type type ++ canon_ops body ++ end_byte ∷ []
  canon_op (if' type then_arm else_arm) =
      if_byte ∷ canon_block_type type ++ canon_ops then_arm ++ canon_else else_arm
      ++ canon_ops else_arm ++ end_byte ∷ []

  pub canon_ops : Ops → List ℕ
  canon_ops stop = []
  canon_ops (next o os) = canon_op o ++ canon_ops os

-- ---- code

-- runs and one more local: it joins the last run if it is of that type, and else is a run of its own
abbrev pub add_local : List (ℕ × ValType) → ValType → List (ℕ × ValType)
add_local [] t = (1, t) ∷ []
add_local (run ∷ []) t = if is_same_type run.1 t then (run.0 + 1, run.1) ∷ [] else run ∷ (1, t) ∷ []
add_local (run ∷ next_run ∷ runs) t = run ∷ add_local (next_run ∷ runs) t

-- locals in longest runs of one type
abbrev pub runs_of : List ValType → List (ℕ × ValType)
runs_of locals = fold add_local [] locals

-- no run is empty, and no two of one type are next to each other
abbrev pub AreLongest : List (ℕ × ValType) → Type 0
AreLongest [] = Unit {0}
AreLongest (run ∷ []) = 0 < run.0
AreLongest (run ∷ next_run ∷ runs) =
    (0 < run.0) × (run.1 ≢ next_run.1) × AreLongest (next_run ∷ runs)

abbrev pub canon_run : ℕ × ValType → List ℕ
canon_run run = canon_number run.0 ++ canon_val_type run.1

abbrev pub canon_code : Func → List ℕ
canon_code f = canon_vector canon_run (runs_of f.locals) ++ canon_ops f.body ++ end_byte ∷ []

abbrev pub canon_entry : Func → List ℕ
canon_entry f = canon_sized (canon_code f)

-- ---- the items of the other sections

abbrev pub canon_expression : Ops → List ℕ
canon_expression os = canon_ops os ++ end_byte ∷ []

abbrev pub canon_import : Import → List ℕ
canon_import i =
    canon_name i.module ++ canon_name i.name ++ kind_byte kinds.Func ∷ canon_number i.type_index

abbrev pub canon_table : Limits → List ℕ
canon_table l = table_type_byte ∷ canon_limits l

abbrev pub canon_global : declared_global.Global → List ℕ
canon_global g = type_byte g.val_type ∷ mutability_byte g.mutability ∷ canon_expression g.init

abbrev pub canon_export : Export → List ℕ
canon_export e = canon_name e.name ++ kind_byte e.kind ∷ canon_number e.index

abbrev pub canon_element : Element → List ℕ
canon_element e =
    canon_number e.table ++ (canon_expression e.offset ++ canon_vector canon_number e.funcs)

abbrev pub canon_segment : Segment → List ℕ
canon_segment s = canon_number s.memory ++ (canon_expression s.offset ++ canon_sized s.bytes)

-- ---- sections and modules

-- the section of this id, and no byte for an empty vector
abbrev pub canon_section : {X : Type 0} → ℕ → (X → List ℕ) → List X → List ℕ
canon_section id encoding [] = []
canon_section id encoding (x ∷ xs) = id ∷ canon_sized (canon_vector encoding (x ∷ xs))

abbrev pub canon_start : Option ℕ → List ℕ
canon_start None = []
canon_start (Some func) = start_section ∷ canon_sized (canon_number func)

-- in rising order of ids
abbrev pub canon : Module → List ℕ
canon m =
    preamble ++ canon_section type_section canon_func_type m.types
    ++ canon_section import_section canon_import m.imports
    ++ canon_section function_section canon_number (indices_of m.funcs)
    ++ canon_section table_section canon_table m.tables
    ++ canon_section memory_section canon_limits m.memories
    ++ canon_section global_section canon_global m.globals
    ++ canon_section export_section canon_export m.exports ++ canon_start m.start
    ++ canon_section element_section canon_element m.elements
    ++ canon_section code_section canon_entry m.funcs
    ++ canon_section data_section canon_segment m.segments

-- a module that is within the limits, and its canonical encoding too
abbrev pub FitsLimits : Module → Type 0
FitsLimits m = Within m × (length (canon m) ≤ max_module_bytes)
