-- The canonical encoding encodes its module.
use Rattle.std.proofs.Common.{◌≡◌, ℕ, ◌+◌, ◌^◌, ◌<◌, ◌≤◌, List, [], ◌∷◌, ◌++◌, length, replicate, Option, Some, None, refl, sym, ap, subst, ◌∙◌, append_assoc, arith, inl, inr, IfSome}
use Rattle.std.specs.Prelude.{IsUtf8, All}
use Rattle.std.specs.List.{flat_map, AllByRecursion}
use Rattle.std.proofs.lemmas.List.{append-nil, length-append, length-replicate}
use Rattle.std.proofs.lemmas.List.Elements.{recursion_from_All}
use Rattle.wasm_ast.specs.declared.values.ValType.{ValType}
use Rattle.wasm_ast.specs.declared.values.FuncType.{FuncType}
use Rattle.wasm_ast.specs.declared.values.Value.TheVariants.{I32, I64}
use Rattle.wasm_ast.specs.declared.instr.BlockType.{BlockType}
use Rattle.wasm_ast.specs.declared.instr.BlockType.TheVariants.{Empty, One, Index}
use Rattle.wasm_ast.specs.declared.instr.MemArg.{MemArg}
use Rattle.wasm_ast.specs.declared.instr.Simple.{Simple}
use Rattle.wasm_ast.specs.declared.instr.Simple.TheVariants.{Unreachable, Nop, Br, BrIf, BrTable, Return, Call, CallIndirect, Drop, Select, Local, Global, Load, Store, MemorySize, MemoryGrow, Const, Unary, Binary, Test, Compare, Convert}
use Rattle.wasm_ast.specs.declared.module.Limits.{Limits}
use Rattle.wasm_ast.specs.declared.module.Global as globals
use Rattle.wasm_ast.specs.declared.module.Element.{Element}
use Rattle.wasm_ast.specs.declared.module.Segment.{Segment}
use Rattle.wasm_ast.specs.declared.module.Import.{Import}
use Rattle.wasm_ast.specs.declared.module.Func.{Func}
use Rattle.wasm_ast.specs.declared.module.ExportKind.TheVariants as kinds
use Rattle.wasm_ast.specs.declared.module.Export.{Export}
use Rattle.wasm_ast.specs.declared.module.Module.{Module}
use Rattle.wasm_ast.specs.Syntax.{Op, simple, block, loop, if', Ops, stop, next}
use Rattle.wasm_ast.specs.Ranged as ranged
use Rattle.wasm_ast.specs.Ranged.{RangedBlockType, RangedSimple, RangedMemArg, RangedOp, RangedOps, RangedImport, RangedFunc, RangedLimits, RangedGlobal, RangedElement, RangedSegment, RangedExport, Ranged, HasImportTexts, HasExportText, AreTexts}
use Rattle.wasm_ast.specs.Limits.{max_module_bytes, max_locals, FuncWithin}
use Rattle.wasm_binary.specs.Numbers as numbers
use Rattle.wasm_binary.specs.Opcodes.{mutability_byte, kind_byte, reserved_byte, else_byte, end_byte, type_section, import_section, function_section, table_section, memory_section, global_section, export_section, start_section, element_section, code_section, data_section, preamble}
use Rattle.wasm_binary.specs.Grammar.{Form, AreItems, IsVector, IsSized, AreBytes, IsName, IsValType, IsFuncType, IsBlockType, AreSizes, IsLimits, IsMemArg, AreImmediates, IsOp, AreOps, IsExpression, IsRun, locals_of, IsCode, IsEntry, IsImport, IsTable, IsGlobal, IsExport, IsStart, IsElement, IsSegment, IsMemory, IsPart, IsSection, AreLocals, indices_of, UpToTypes, UpToImports, UpToFunctions, UpToTables, UpToMemories, UpToGlobals, UpToExports, UpToStart, UpToElements, UpToCodes, Spells}
use Rattle.wasm_binary.specs.Canonical.{canon_number, canon_vector, canon_sized, canon_name, canon_val_type, canon_func_type, canon_block_type, canon_sizes, canon_limits, canon_mem_arg, canon_immediates, canon_op, canon_ops, runs_of, canon_run, canon_code, canon_entry, canon_expression, canon_import, canon_table, canon_global, canon_export, canon_element, canon_segment, canon_section, canon_start, canon, FitsLimits}
use Rattle.wasm_binary.proofs.Powers.{small}
use Rattle.wasm_binary.proofs.LocalRuns.{locals_runs}
use Rattle.wasm_binary.proofs.CanonicalNumbers.{number_spells, unsigned_some, signed_spells}

-- ---- parts

number_then :
    (n : ℕ) (others rest : List ℕ) → n < 2 ^ 32 → numbers.IsU32 ((canon_number n ++ others) ++ rest) n (others ++ rest)
number_then n others rest lt = rw append_assoc (number_spells n (others ++ rest) lt)

sized_spells :
    {X : Type 0} (IsX : Form X) (part : List ℕ) (x : X) (rest : List ℕ) → length (canon_sized part) ≤ max_module_bytes
    → IsX part x [] → IsSized IsX (canon_sized part ++ rest) x rest
sized_spells IsX part x rest few h = (
  part,
  part ++ rest,
  number_then (length part) part rest (omega (arith, length-append (canon_number (length part)) part)),
  refl,
  h,
)

bytes_spells :
    (bytes rest : List ℕ) → length (canon_sized bytes) ≤ max_module_bytes
    → AreBytes (canon_sized bytes ++ rest) bytes rest
bytes_spells bytes rest few = (
  bytes ++ rest,
  number_then (length bytes) bytes rest (omega (arith, length-append (canon_number (length bytes)) bytes)),
  refl,
)

name_spells :
    (bytes rest : List ℕ) → length (canon_name bytes) ≤ max_module_bytes → IsUtf8 bytes
    → IsName (canon_name bytes ++ rest) bytes rest
name_spells bytes rest few h = (bytes_spells bytes rest few, h)

items_spells :
    {X : Type 0} (IsX : Form X) (encoding : X → List ℕ) (P : X → Type 0)
    → ((x : X) (rest : List ℕ) → P x → length (encoding x) ≤ max_module_bytes → IsX (encoding x ++ rest) x rest)
    → (xs : List X) (rest : List ℕ) → AllByRecursion P xs → length (flat_map encoding xs) ≤ max_module_bytes
    → AreItems IsX (flat_map encoding xs ++ rest) xs rest
items_spells IsX encoding P each [] rest all few = refl
items_spells IsX encoding P each (x ∷ xs) rest all few =
    let k = length-append (encoding x) (flat_map encoding xs) in (
      flat_map encoding xs ++ rest,
      rw append_assoc (each x (flat_map encoding xs ++ rest) all.0 (omega arith)),
      items_spells IsX encoding P each xs rest all.1 (omega arith),
    )

items_some :
    {X : Type 0} (encoding : X → List ℕ) → ((x : X) → 0 < length (encoding x)) → (xs : List X)
    → length xs ≤ length (flat_map encoding xs)
items_some encoding some [] = omega arith
items_some encoding some (x ∷ xs) =
    omega (arith, some x, items_some encoding some xs, length-append (encoding x) (flat_map encoding xs))

vector_spells :
    {X : Type 0} (IsX : Form X) (encoding : X → List ℕ) (P : X → Type 0)
    → ((x : X) (rest : List ℕ) → P x → length (encoding x) ≤ max_module_bytes → IsX (encoding x ++ rest) x rest)
    → ((x : X) → 0 < length (encoding x))
    → (xs : List X) (rest : List ℕ) → AllByRecursion P xs → length (canon_vector encoding xs) ≤ max_module_bytes
    → IsVector IsX (canon_vector encoding xs ++ rest) xs rest
vector_spells IsX encoding P each some xs rest all few =
    let k = length-append (canon_number (length xs)) (flat_map encoding xs) in (
      flat_map encoding xs ++ rest,
      number_then (length xs) (flat_map encoding xs) rest (omega (arith, items_some encoding some xs)),
      items_spells IsX encoding P each xs rest all (omega arith),
    )

-- ---- types

type_spells :
    (t : ValType) (rest : List ℕ) → Unit {0} → length (canon_val_type t) ≤ max_module_bytes
    → IsValType (canon_val_type t ++ rest) t rest
type_spells t rest u few = refl

type_some : (t : ValType) → 0 < length (canon_val_type t)
type_some t = omega arith

all_types : (ts : List ValType) → AllByRecursion (λ t. Unit {0}) ts
all_types [] = tt
all_types (t ∷ ts) = (tt, all_types ts)

func_type_spells :
    (t : FuncType) (rest : List ℕ) → Unit {0} → length (canon_func_type t) ≤ max_module_bytes
    → IsFuncType (canon_func_type t ++ rest) t rest
func_type_spells t rest u few =
    let k = length-append (canon_vector canon_val_type t.params) (canon_vector canon_val_type t.results) in (
      canon_vector canon_val_type t.params ++ canon_vector canon_val_type t.results ++ rest,
      canon_vector canon_val_type t.results ++ rest,
      refl,
      rw (append_assoc (canon_vector canon_val_type t.params) (canon_vector canon_val_type t.results) rest)
          (vector_spells IsValType canon_val_type (λ t. Unit {0}) type_spells type_some t.params
          (canon_vector canon_val_type t.results ++ rest) (all_types t.params) (omega arith)),
      vector_spells IsValType canon_val_type (λ t. Unit {0}) type_spells type_some t.results rest
          (all_types t.results) (omega arith),
    )

func_type_some : (t : FuncType) → 0 < length (canon_func_type t)
func_type_some t = omega arith

all_func_types : (ts : List FuncType) → AllByRecursion (λ t. Unit {0}) ts
all_func_types [] = tt
all_func_types (t ∷ ts) = (tt, all_func_types ts)

pub block_type_spells :
    (t : BlockType) (rest : List ℕ) → RangedBlockType t → IsBlockType (canon_block_type t ++ rest) t rest
block_type_spells Empty rest h = refl
block_type_spells (One t) rest h = refl
block_type_spells (Index i) rest h = (signed_spells 4 33 i rest (omega (arith, h)) (omega arith) (omega arith), h)

sizes_spells :
    (min : ℕ) (max : Option ℕ) (rest : List ℕ) → ranged.IsU32 min → IfSome max ranged.IsU32
    → AreSizes (canon_sizes min max ++ rest) min max rest
sizes_spells min None rest h k = (canon_number min ++ rest, refl, number_spells min rest h)
sizes_spells min (Some max) rest h k = (
  (canon_number min ++ canon_number max) ++ rest,
  canon_number max ++ rest,
  refl,
  number_then min (canon_number max) rest h,
  number_spells max rest k,
)

limits_spells : (l : Limits) (rest : List ℕ) → RangedLimits l → IsLimits (canon_limits l ++ rest) l rest
limits_spells l rest h = sizes_spells l.min l.max rest h.0 h.1

-- ---- instructions

index_spells :
    (n : ℕ) (rest : List ℕ) → n < 2 ^ 32 → length (canon_number n) ≤ max_module_bytes
    → numbers.IsU32 (canon_number n ++ rest) n rest
index_spells n rest small few = number_spells n rest small

indices_spell :
    (ns : List ℕ) (rest : List ℕ) → All ranged.IsU32 ns → length (canon_vector canon_number ns) ≤ max_module_bytes
    → IsVector numbers.IsU32 (canon_vector canon_number ns ++ rest) ns rest
indices_spell ns rest all few =
    vector_spells numbers.IsU32 canon_number (λ n. n < 2 ^ 32) index_spells (unsigned_some 9) ns rest
    (recursion_from_All ranged.IsU32 ns all) few

mem_arg_spells : (at : MemArg) (rest : List ℕ) → RangedMemArg at → IsMemArg (canon_mem_arg at ++ rest) at rest
mem_arg_spells at rest h = (
  canon_number at.offset ++ rest,
  number_then at.align (canon_number at.offset) rest h.0,
  number_spells at.offset rest h.1,
)

immediates_spell :
    (s : Simple) (rest : List ℕ) → RangedSimple s → length (canon_immediates s) ≤ max_module_bytes
    → AreImmediates (canon_immediates s ++ rest) s rest
immediates_spell (Br label) rest h few = number_spells label rest h
immediates_spell (BrIf label) rest h few = number_spells label rest h
immediates_spell (Call func) rest h few = number_spells func rest h
immediates_spell (Local op index) rest h few = number_spells index rest h
immediates_spell (Global op index) rest h few = number_spells index rest h
immediates_spell (Load op at) rest h few = mem_arg_spells at rest h
immediates_spell (Store op at) rest h few = mem_arg_spells at rest h
immediates_spell (BrTable other labels) rest h few =
    let k = length-append (canon_vector canon_number labels) (canon_number other) in (
      canon_number other ++ rest,
      rw (append_assoc (canon_vector canon_number labels) (canon_number other) rest)
          (indices_spell labels (canon_number other ++ rest) h.0 (omega arith)),
      number_spells other rest h.1,
    )
immediates_spell (CallIndirect index) rest h few = number_then index (reserved_byte ∷ []) rest h
immediates_spell (Const (I32 n)) rest h few = signed_spells 4 32 n rest h (omega arith) (omega arith)
immediates_spell (Const (I64 n)) rest h few = signed_spells 9 64 n rest h (omega arith) (omega arith)
immediates_spell Unreachable rest h few = refl
immediates_spell Nop rest h few = refl
immediates_spell Return rest h few = refl
immediates_spell Drop rest h few = refl
immediates_spell Select rest h few = refl
immediates_spell MemorySize rest h few = refl
immediates_spell MemoryGrow rest h few = refl
immediates_spell (Unary t op) rest h few = refl
immediates_spell (Binary t op) rest h few = refl
immediates_spell (Test t op) rest h few = refl
immediates_spell (Compare t op) rest h few = refl
immediates_spell (Convert op) rest h few = refl

-- the parts of an instruction that has bodies, in order
three : (t b c rest : List ℕ) → (t ++ b ++ c) ++ rest ≡ t ++ (b ++ (c ++ rest))
three t b c rest = simp append_assoc

five : (t a e b c rest : List ℕ) → (t ++ a ++ e ++ b ++ c) ++ rest ≡ t ++ (a ++ (e ++ (b ++ (c ++ rest))))
five t a e b c rest = simp append_assoc

three_long : (t b c : List ℕ) (most : ℕ) → length (t ++ b ++ c) ≤ most → length b ≤ most
three_long t b c most h = omega (arith, length-append (t ++ b) c, length-append t b)

five_long :
    (t a e b c : List ℕ) (most : ℕ) → length (t ++ a ++ e ++ b ++ c) ≤ most → (length a ≤ most) × (length b ≤ most)
five_long t a e b c most h =
    let one = length-append (t ++ a ++ e ++ b) c in
    let two = length-append (t ++ a ++ e) b in
    let three = length-append (t ++ a) e in
    let four = length-append t a in
    (omega arith, omega arith)

mutual
  op_spells :
      (o : Op) (rest : List ℕ) → RangedOp o → length (canon_op o) ≤ max_module_bytes → IsOp (canon_op o ++ rest) o rest
  op_spells (simple s) rest h few = (canon_immediates s ++ rest, refl, immediates_spell s rest h (omega arith))
  op_spells (block type body) rest h few =
      let mid = canon_ops body ++ (end_byte ∷ rest) in (
        (canon_block_type type ++ canon_ops body ++ end_byte ∷ []) ++ rest,
        mid,
        refl,
        subst (λ bytes. IsBlockType bytes type mid)
            (sym (three (canon_block_type type) (canon_ops body) (end_byte ∷ []) rest))
            (block_type_spells type mid h.0),
        ops_spell body (end_byte ∷ rest) h.1
            (three_long (canon_block_type type) (canon_ops body) (end_byte ∷ []) max_module_bytes (omega arith)),
      )
  op_spells (loop type body) rest h few =
      let mid = canon_ops body ++ (end_byte ∷ rest) in (
        (canon_block_type type ++ canon_ops body ++ end_byte ∷ []) ++ rest,
        mid,
        refl,
        subst (λ bytes. IsBlockType bytes type mid)
            (sym (three (canon_block_type type) (canon_ops body) (end_byte ∷ []) rest))
            (block_type_spells type mid h.0),
        ops_spell body (end_byte ∷ rest) h.1
            (three_long (canon_block_type type) (canon_ops body) (end_byte ∷ []) max_module_bytes (omega arith)),
      )
  op_spells (if' type first stop) rest h few =
      let mid = canon_ops first ++ (end_byte ∷ rest) in
      let long =
      five_long (canon_block_type type) (canon_ops first) [] [] (end_byte ∷ []) max_module_bytes (omega arith) in (
        (canon_block_type type ++ canon_ops first ++ [] ++ [] ++ end_byte ∷ []) ++ rest,
        mid,
        refl,
        subst (λ bytes. IsBlockType bytes type mid)
            (sym (five (canon_block_type type) (canon_ops first) [] [] (end_byte ∷ []) rest))
            (block_type_spells type mid h.0),
        inl (ops_spell first (end_byte ∷ rest) h.1 long.0, refl),
      )
  op_spells (if' type first (next o os)) rest h few =
      let second = canon_ops (next o os) in
      let from = second ++ (end_byte ∷ rest) in
      let mid = canon_ops first ++ (else_byte ∷ from) in
      let long =
      five_long (canon_block_type type) (canon_ops first) (else_byte ∷ []) second (end_byte ∷ []) max_module_bytes
      (omega arith) in (
        (canon_block_type type ++ canon_ops first ++ (else_byte ∷ []) ++ second ++ end_byte ∷ []) ++ rest,
        mid,
        refl,
        subst (λ bytes. IsBlockType bytes type mid)
            (sym (five (canon_block_type type) (canon_ops first) (else_byte ∷ []) second (end_byte ∷ []) rest))
            (block_type_spells type mid h.0),
        inr (from, ops_spell first (else_byte ∷ from) h.1 long.0, ops_spell (next o os) (end_byte ∷ rest) h.2 long.1),
      )

  ops_spell :
      (os : Ops) (rest : List ℕ) → RangedOps os → length (canon_ops os) ≤ max_module_bytes
      → AreOps (canon_ops os ++ rest) os rest
  ops_spell stop rest h few = refl
  ops_spell (next o os) rest h few =
      let k = length-append (canon_op o) (canon_ops os) in (
        canon_ops os ++ rest,
        rw append_assoc (op_spells o (canon_ops os ++ rest) h.0 (omega arith)),
        ops_spell os rest h.1 (omega arith),
      )

expression_spells :
    (os : Ops) (rest : List ℕ) → RangedOps os → length (canon_expression os) ≤ max_module_bytes
    → IsExpression (canon_expression os ++ rest) os rest
expression_spells os rest h few =
    let k = length-append (canon_ops os) (end_byte ∷ []) in
    rw (append_assoc (canon_ops os) (end_byte ∷ []) rest) (ops_spell os (end_byte ∷ rest) h (omega arith))

-- ---- code

run_spells :
    (r : ℕ × ValType) (rest : List ℕ) → r.0 < 2 ^ 32 → length (canon_run r) ≤ max_module_bytes
    → IsRun (canon_run r ++ rest) r rest
run_spells r rest small few = (canon_val_type r.1 ++ rest, number_then r.0 (canon_val_type r.1) rest small, refl)

run_some : (r : ℕ × ValType) → 0 < length (canon_run r)
run_some r = omega (arith, length-append (canon_number r.0) (canon_val_type r.1))

all_runs : (runs : List (ℕ × ValType)) → length (locals_of runs) ≤ max_locals → AllByRecursion (λ r. r.0 < 2 ^ 32) runs
all_runs [] few = tt
all_runs (r ∷ runs) few =
    let k :
    length (locals_of (r ∷ runs)) ≡ r.0 + length (locals_of runs) =
    omega (arith, length-append (replicate r.0 r.1) (locals_of runs), length-replicate r.0 r.1) in
    (omega arith, all_runs runs (omega arith))

code_spells :
    (f : Func) → RangedFunc f → length f.locals ≤ max_locals → length (canon_code f) ≤ max_module_bytes
    → IsCode (canon_code f) f []
code_spells f small few short =
    let whole :
    length (canon_code f)
    ≡ length (canon_vector canon_run (runs_of f.locals)) + length (canon_ops f.body ++ end_byte ∷ []) =
    ap length (append_assoc (canon_vector canon_run (runs_of f.locals)) (canon_ops f.body) (end_byte ∷ []))
    ∙ length-append (canon_vector canon_run (runs_of f.locals)) (canon_ops f.body ++ end_byte ∷ []) in (
      canon_ops f.body ++ end_byte ∷ [],
      (
        runs_of f.locals,
        rw (append_assoc (canon_vector canon_run (runs_of f.locals)) (canon_ops f.body) (end_byte ∷ []))
            (vector_spells IsRun canon_run (λ r. r.0 < 2 ^ 32) run_spells run_some (runs_of f.locals)
            (canon_ops f.body ++ end_byte ∷ [])
            (all_runs (runs_of f.locals) (omega (arith, ap length (locals_runs f.locals)))) (omega arith)),
        sym (locals_runs f.locals),
        omega arith,
      ),
      ops_spell f.body (end_byte ∷ []) small.1 (omega (arith, length-append (canon_ops f.body) (end_byte ∷ []))),
    )

-- what is known of a function
abbrev Known : Func → Type 0
Known f = RangedFunc f × (length f.locals ≤ max_locals)

entry_spells :
    (f : Func) (rest : List ℕ) → Known f → length (canon_entry f) ≤ max_module_bytes
    → IsEntry (canon_entry f ++ rest) f rest
entry_spells f rest known few =
    sized_spells IsCode (canon_code f) f rest few
    (code_spells f known.0 known.1
    (omega (arith, length-append (canon_number (length (canon_code f))) (canon_code f))))

entry_some : (f : Func) → 0 < length (canon_entry f)
entry_some f =
    omega (
      arith,
      unsigned_some 9 (length (canon_code f)),
      length-append (canon_number (length (canon_code f))) (canon_code f),
    )

all_known :
    (types : List FuncType) (fs : List Func) → AllByRecursion RangedFunc fs → AllByRecursion (FuncWithin types) fs
    → AllByRecursion Known fs
all_known types [] a c = tt
all_known types (f ∷ fs) a c = ((a.0, let few = c.0.locals in omega arith), all_known types fs a.1 c.1)

all_indices : (fs : List Func) → AllByRecursion RangedFunc fs → AllByRecursion (λ n. n < 2 ^ 32) (indices_of fs)
all_indices [] a = tt
all_indices (f ∷ fs) a = (a.0.0, all_indices fs a.1)

-- ---- the items of the other sections

import_spells :
    (i : Import) (rest : List ℕ) → RangedImport i × HasImportTexts i → length (canon_import i) ≤ max_module_bytes
    → IsImport (canon_import i ++ rest) i rest
import_spells i rest h few =
    let one =
    length-append (canon_name i.module ++ canon_name i.name) (kind_byte kinds.Func ∷ canon_number i.type_index) in
    let two = length-append (canon_name i.module) (canon_name i.name) in
    let parts :
    canon_import i ++ rest
    ≡ canon_name i.module ++ (canon_name i.name ++ (kind_byte kinds.Func ∷ (canon_number i.type_index ++ rest))) =
    append_assoc (canon_name i.module ++ canon_name i.name) (kind_byte kinds.Func ∷ canon_number i.type_index) rest
    ∙ append_assoc (canon_name i.module) (canon_name i.name)
    (kind_byte kinds.Func ∷ (canon_number i.type_index ++ rest)) in (
      canon_name i.name ++ (kind_byte kinds.Func ∷ (canon_number i.type_index ++ rest)),
      kind_byte kinds.Func ∷ (canon_number i.type_index ++ rest),
      canon_number i.type_index ++ rest,
      subst
          (λ bytes. IsName bytes i.module
          (canon_name i.name ++ (kind_byte kinds.Func ∷ (canon_number i.type_index ++ rest)))) (sym parts)
          (name_spells i.module (canon_name i.name ++ (kind_byte kinds.Func ∷ (canon_number i.type_index ++ rest)))
          (omega arith) h.1.0),
      name_spells i.name (kind_byte kinds.Func ∷ (canon_number i.type_index ++ rest)) (omega arith) h.1.1,
      refl,
      number_spells i.type_index rest h.0,
    )

import_some : (i : Import) → 0 < length (canon_import i)
import_some i =
    omega (
      arith,
      length-append (canon_name i.module ++ canon_name i.name) (kind_byte kinds.Func ∷ canon_number i.type_index),
    )

export_spells :
    (e : Export) (rest : List ℕ) → RangedExport e × HasExportText e → length (canon_export e) ≤ max_module_bytes
    → IsExport (canon_export e ++ rest) e rest
export_spells e rest h few =
    let one = length-append (canon_name e.name) (kind_byte e.kind ∷ canon_number e.index) in (
      kind_byte e.kind ∷ (canon_number e.index ++ rest),
      canon_number e.index ++ rest,
      subst (λ bytes. IsName bytes e.name (kind_byte e.kind ∷ (canon_number e.index ++ rest)))
          (sym (append_assoc (canon_name e.name) (kind_byte e.kind ∷ canon_number e.index) rest))
          (name_spells e.name (kind_byte e.kind ∷ (canon_number e.index ++ rest)) (omega arith) h.1),
      refl,
      number_spells e.index rest h.0,
    )

export_some : (e : Export) → 0 < length (canon_export e)
export_some e = omega (arith, length-append (canon_name e.name) (kind_byte e.kind ∷ canon_number e.index))

table_spells :
    (l : Limits) (rest : List ℕ) → RangedLimits l → length (canon_table l) ≤ max_module_bytes
    → IsTable (canon_table l ++ rest) l rest
table_spells l rest h few = (canon_limits l ++ rest, refl, limits_spells l rest h)

table_some : (l : Limits) → 0 < length (canon_table l)
table_some l = omega arith

memory_spells :
    (l : Limits) (rest : List ℕ) → RangedLimits l → length (canon_limits l) ≤ max_module_bytes
    → IsMemory (canon_limits l ++ rest) l rest
memory_spells l rest h few = limits_spells l rest h

sizes_some : (min : ℕ) (max : Option ℕ) → 0 < length (canon_sizes min max)
sizes_some min None = omega arith
sizes_some min (Some max) = omega arith

memory_some : (l : Limits) → 0 < length (canon_limits l)
memory_some l = sizes_some l.min l.max

global_spells :
    (g : globals.Global) (rest : List ℕ) → RangedGlobal g → length (canon_global g) ≤ max_module_bytes
    → IsGlobal (canon_global g ++ rest) g rest
global_spells g rest h few = (
  mutability_byte g.mutability ∷ (canon_expression g.init ++ rest),
  canon_expression g.init ++ rest,
  refl,
  refl,
  expression_spells g.init rest h (omega arith),
)

global_some : (g : globals.Global) → 0 < length (canon_global g)
global_some g = omega arith

element_spells :
    (e : Element) (rest : List ℕ) → RangedElement e → length (canon_element e) ≤ max_module_bytes
    → IsElement (canon_element e ++ rest) e rest
element_spells e rest h few =
    let offset = canon_expression e.offset in
    let funcs = canon_vector canon_number e.funcs in
    let one = length-append (canon_number e.table) (offset ++ funcs) in
    let two = length-append offset funcs in (
      (offset ++ funcs) ++ rest,
      funcs ++ rest,
      number_then e.table (offset ++ funcs) rest h.0,
      rw (append_assoc offset funcs rest) (expression_spells e.offset (funcs ++ rest) h.1 (omega arith)),
      indices_spell e.funcs rest h.2 (omega arith),
    )

element_some : (e : Element) → 0 < length (canon_element e)
element_some e =
    omega (
      arith,
      unsigned_some 9 e.table,
      length-append (canon_number e.table) (canon_expression e.offset ++ canon_vector canon_number e.funcs),
    )

segment_spells :
    (s : Segment) (rest : List ℕ) → RangedSegment s → length (canon_segment s) ≤ max_module_bytes
    → IsSegment (canon_segment s ++ rest) s rest
segment_spells s rest h few =
    let offset = canon_expression s.offset in
    let contents = canon_sized s.bytes in
    let one = length-append (canon_number s.memory) (offset ++ contents) in
    let two = length-append offset contents in (
      (offset ++ contents) ++ rest,
      contents ++ rest,
      number_then s.memory (offset ++ contents) rest h.0,
      rw (append_assoc offset contents rest) (expression_spells s.offset (contents ++ rest) h.1 (omega arith)),
      bytes_spells s.bytes rest (omega arith),
    )

segment_some : (s : Segment) → 0 < length (canon_segment s)
segment_some s =
    omega (
      arith,
      unsigned_some 9 s.memory,
      length-append (canon_number s.memory) (canon_expression s.offset ++ canon_sized s.bytes),
    )

all_both :
    {X : Type 0} (P Q : X → Type 0) (xs : List X) → AllByRecursion P xs → AllByRecursion Q xs
    → AllByRecursion (λ x. P x × Q x) xs
all_both P Q [] a b = tt
all_both P Q (x ∷ xs) a b = ((a.0, b.0), all_both P Q xs a.1 b.1)

-- ---- sections and modules

section_spells :
    {X : Type 0} (id : ℕ) (IsX : Form X) (encoding : X → List ℕ) (P : X → Type 0)
    → ((x : X) (rest : List ℕ) → P x → length (encoding x) ≤ max_module_bytes → IsX (encoding x ++ rest) x rest)
    → ((x : X) → 0 < length (encoding x))
    → (xs : List X) (rest : List ℕ) → AllByRecursion P xs → length (canon_section id encoding xs) ≤ max_module_bytes
    → IsSection id IsX (canon_section id encoding xs ++ rest) xs rest
section_spells id IsX encoding P each some [] rest all few = inr (refl, refl)
section_spells id IsX encoding P each some (x ∷ xs) rest all few =
    let k = length-append (canon_number (length (canon_vector encoding (x ∷ xs)))) (canon_vector encoding (x ∷ xs)) in
    inl (
      canon_sized (canon_vector encoding (x ∷ xs)) ++ rest,
      rest,
      refl,
      sized_spells (IsVector IsX) (canon_vector encoding (x ∷ xs)) (x ∷ xs) rest (omega arith)
          (subst (λ bytes. IsVector IsX bytes (x ∷ xs) []) (append-nil (canon_vector encoding (x ∷ xs)))
          (vector_spells IsX encoding P each some (x ∷ xs) [] all (omega arith))),
      ([], refl),
    )

start_spells :
    (x : Option ℕ) (rest : List ℕ) → IfSome x ranged.IsU32 → length (canon_start x) ≤ max_module_bytes
    → IsPart start_section IsStart None (canon_start x ++ rest) x rest
start_spells None rest h few = inr (refl, refl)
start_spells (Some f) rest h few =
    inl (
      canon_sized (canon_number f) ++ rest,
      rest,
      refl,
      sized_spells IsStart (canon_number f) (Some f) rest (omega arith)
          (subst (λ bytes. numbers.IsU32 bytes f []) (append-nil (canon_number f)) (number_spells f [] h)),
      ([], refl),
    )

in_order :
    (t i f tb me g x st e c d : List ℕ)
    → t ++ i ++ f ++ tb ++ me ++ g ++ x ++ st ++ e ++ c ++ d
    ≡ t ++ (i ++ (f ++ (tb ++ (me ++ (g ++ (x ++ (st ++ (e ++ (c ++ (d ++ []))))))))))
in_order t i f tb me g x st e c d =
    sym (append-nil (t ++ i ++ f ++ tb ++ me ++ g ++ x ++ st ++ e ++ c ++ d)) ∙ simp append_assoc

in_groups :
    (t i f tb me g x st e c d : List ℕ)
    → t ++ i ++ f ++ tb ++ me ++ g ++ x ++ st ++ e ++ c ++ d
    ≡ (t ++ i ++ f) ++ (tb ++ me ++ g) ++ (x ++ st ++ e) ++ c ++ d
in_groups t i f tb me g x st e c d = simp append_assoc

-- each part of an encoding that is short enough is so too
record Short (m : Module) : Type 0 where
  pub types : length (canon_section type_section canon_func_type m.types) ≤ max_module_bytes
  pub imports : length (canon_section import_section canon_import m.imports) ≤ max_module_bytes
  pub functions : length (canon_section function_section canon_number (indices_of m.funcs)) ≤ max_module_bytes
  pub tables : length (canon_section table_section canon_table m.tables) ≤ max_module_bytes
  pub memories : length (canon_section memory_section canon_limits m.memories) ≤ max_module_bytes
  pub globals : length (canon_section global_section canon_global m.globals) ≤ max_module_bytes
  pub exports : length (canon_section export_section canon_export m.exports) ≤ max_module_bytes
  pub start : length (canon_start m.start) ≤ max_module_bytes
  pub elements : length (canon_section element_section canon_element m.elements) ≤ max_module_bytes
  pub codes : length (canon_section code_section canon_entry m.funcs) ≤ max_module_bytes
  pub segments : length (canon_section data_section canon_segment m.segments) ≤ max_module_bytes

three_short :
    (a b c : List ℕ) (most : ℕ) → length (a ++ b ++ c) ≤ most
    → (length a ≤ most) × (length b ≤ most) × (length c ≤ most)
three_short a b c most h =
    let one = length-append (a ++ b) c in
    let two = length-append a b in
    (omega arith, omega arith, omega arith)

five_short :
    (a b c d e : List ℕ) (most : ℕ) → length (preamble ++ a ++ b ++ c ++ d ++ e) ≤ most
    → (length a ≤ most) × (length b ≤ most) × (length c ≤ most) × (length d ≤ most) × (length e ≤ most)
five_short a b c d e most h =
    let one = length-append (preamble ++ a ++ b ++ c ++ d) e in
    let two = length-append (preamble ++ a ++ b ++ c) d in
    let three = length-append (preamble ++ a ++ b) c in
    let four = length-append (preamble ++ a) b in
    let five = length-append preamble a in
    (omega arith, omega arith, omega arith, omega arith, omega arith)

short : (m : Module) → length (canon m) ≤ max_module_bytes → Short m
short m few =
    let t = canon_section type_section canon_func_type m.types in
    let i = canon_section import_section canon_import m.imports in
    let f = canon_section function_section canon_number (indices_of m.funcs) in
    let tb = canon_section table_section canon_table m.tables in
    let me = canon_section memory_section canon_limits m.memories in
    let g = canon_section global_section canon_global m.globals in
    let x = canon_section export_section canon_export m.exports in
    let st = canon_start m.start in
    let e = canon_section element_section canon_element m.elements in
    let c = canon_section code_section canon_entry m.funcs in
    let d = canon_section data_section canon_segment m.segments in
    let grouped =
    subst (λ (xs : List ℕ). length (preamble ++ xs) ≤ max_module_bytes) (in_groups t i f tb me g x st e c d) few in
    let parts = five_short (t ++ i ++ f) (tb ++ me ++ g) (x ++ st ++ e) c d max_module_bytes grouped in
    let front = three_short t i f max_module_bytes parts.0 in
    let stores = three_short tb me g max_module_bytes parts.1 in
    let middle = three_short x st e max_module_bytes parts.2 in
    record {
      types = front.0;
      imports = front.1;
      functions = front.2;
      tables = stores.0;
      memories = stores.1;
      globals = stores.2;
      exports = middle.0;
      start = middle.1;
      elements = middle.2;
      codes = parts.3;
      segments = parts.4;
    }

pub canon_spells : (m : Module) → Ranged m → AreTexts m → FitsLimits m → Spells (canon m) m
canon_spells m ranged texts fits =
    let few : Short m = short m fits.1 in
    let t = canon_section type_section canon_func_type m.types in
    let i = canon_section import_section canon_import m.imports in
    let f = canon_section function_section canon_number (indices_of m.funcs) in
    let tb = canon_section table_section canon_table m.tables in
    let me = canon_section memory_section canon_limits m.memories in
    let g = canon_section global_section canon_global m.globals in
    let x = canon_section export_section canon_export m.exports in
    let st = canon_start m.start in
    let e = canon_section element_section canon_element m.elements in
    let c = canon_section code_section canon_entry m.funcs in
    let d = canon_section data_section canon_segment m.segments in
    let r10 = d ++ [] in
    let r9 = c ++ r10 in
    let r8 = e ++ r9 in
    let r7 = st ++ r8 in
    let r6 = x ++ r7 in
    let r5 = g ++ r6 in
    let r4 = me ++ r5 in
    let r3 = tb ++ r4 in
    let r2 = f ++ r3 in
    let r1 = i ++ r2 in
    let funcs = recursion_from_All RangedFunc m.funcs ranged.funcs in
    let to_types : UpToTypes (canon m) m r1 = (
      t ++ r1,
      (t ++ r1, ap (λ (xs : List ℕ). preamble ++ xs) (in_order t i f tb me g x st e c d), ([], refl)),
      section_spells type_section IsFuncType canon_func_type (λ t. Unit {0}) func_type_spells func_type_some m.types
          r1 (all_func_types m.types) few.types,
    ) in
    let to_imports : UpToImports (canon m) m r2 = (
      r1,
      to_types,
      section_spells import_section IsImport canon_import (λ i. RangedImport i × HasImportTexts i) import_spells
          import_some m.imports r2
          (all_both RangedImport HasImportTexts m.imports (recursion_from_All RangedImport m.imports ranged.imports)
          (recursion_from_All HasImportTexts m.imports texts.imports)) few.imports,
    ) in
    let to_functions : UpToFunctions (canon m) m r3 = (
      r2,
      to_imports,
      section_spells function_section numbers.IsU32 canon_number (λ n. n < 2 ^ 32) index_spells (unsigned_some 9)
          (indices_of m.funcs) r3 (all_indices m.funcs funcs) few.functions,
    ) in
    let to_tables : UpToTables (canon m) m r4 = (
      r3,
      to_functions,
      section_spells table_section IsTable canon_table RangedLimits table_spells table_some m.tables r4
          (recursion_from_All RangedLimits m.tables ranged.tables) few.tables,
    ) in
    let to_memories : UpToMemories (canon m) m r5 = (
      r4,
      to_tables,
      section_spells memory_section IsMemory canon_limits RangedLimits memory_spells memory_some m.memories r5
          (recursion_from_All RangedLimits m.memories ranged.memories) few.memories,
    ) in
    let to_globals : UpToGlobals (canon m) m r6 = (
      r5,
      to_memories,
      section_spells global_section IsGlobal canon_global RangedGlobal global_spells global_some m.globals r6
          (recursion_from_All RangedGlobal m.globals ranged.globals) few.globals,
    ) in
    let to_exports : UpToExports (canon m) m r7 = (
      r6,
      to_globals,
      section_spells export_section IsExport canon_export (λ e. RangedExport e × HasExportText e) export_spells
          export_some m.exports r7
          (all_both RangedExport HasExportText m.exports (recursion_from_All RangedExport m.exports ranged.exports)
          (recursion_from_All HasExportText m.exports texts.exports)) few.exports,
    ) in
    let to_start : UpToStart (canon m) m r8 = (r7, to_exports, start_spells m.start r8 ranged.start few.start) in
    let to_elements : UpToElements (canon m) m r9 = (
      r8,
      to_start,
      section_spells element_section IsElement canon_element RangedElement element_spells element_some m.elements r9
          (recursion_from_All RangedElement m.elements ranged.elements) few.elements,
    ) in
    let to_codes : UpToCodes (canon m) m r10 = (
      r9,
      to_elements,
      section_spells code_section IsEntry canon_entry Known entry_spells entry_some m.funcs r10
          (all_known m.types m.funcs funcs (recursion_from_All (FuncWithin m.types) m.funcs fits.0.funcs)) few.codes,
    ) in
    record {
      from_segments = r10;
      before = to_codes;
      segments =
          section_spells data_section IsSegment canon_segment RangedSegment segment_spells segment_some m.segments []
          (recursion_from_All RangedSegment m.segments ranged.segments) few.segments;
    }

-- ---- locals

-- one run, whatever its length
pub one_run :
    (n : ℕ) (t : ValType) → n < 2 ^ 32 → AreLocals (0x01 ∷ canon_number n ++ canon_val_type t) (replicate n t) []
one_run n t lt = (
  (n, t) ∷ [],
  (
    canon_number n ++ canon_val_type t,
    inl (omega arith, (omega arith, refl), refl),
    ([], (canon_val_type t, number_spells n (canon_val_type t) lt, refl), refl),
  ),
  sym (append-nil (replicate n t)),
  omega (arith, length-replicate n t),
)
