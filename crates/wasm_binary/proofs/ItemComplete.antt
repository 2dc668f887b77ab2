-- The readers of code and of the items of other sections are complete, but for limits.
use Rattle.std.proofs.Common.{◌≡◌, ℕ, suc, ◌+◌, ◌≤◌, Bool, true, List, [], ◌∷◌, length, replicate, Option, Some, None, refl, sym, ap, arith}
use Rattle.std.specs.List.{AllByRecursion}
use Rattle.std.proofs.lemmas.Bool.{eq-eqb}
use Rattle.std.proofs.lemmas.List.{length-append, length-replicate}
use Rattle.wasm_ast.specs.declared.values.ValType.{ValType}
use Rattle.wasm_ast.specs.declared.values.FuncType.{FuncType}
use Rattle.wasm_ast.specs.declared.module.Limits.{Limits}
use Rattle.wasm_ast.specs.declared.module.Mutability.{Mutability}
use Rattle.wasm_ast.specs.declared.module.Mutability.TheVariants as mutability
use Rattle.wasm_ast.specs.declared.module.Global.{Global}
use Rattle.wasm_ast.specs.declared.module.Element.{Element}
use Rattle.wasm_ast.specs.declared.module.Segment.{Segment}
use Rattle.wasm_ast.specs.declared.module.Import.{Import}
use Rattle.wasm_ast.specs.declared.module.ExportKind.{ExportKind}
use Rattle.wasm_ast.specs.declared.module.ExportKind.TheVariants as kinds
use Rattle.wasm_ast.specs.declared.module.Export.{Export}
use Rattle.wasm_ast.specs.declared.module.Func.{Func}
use Rattle.wasm_ast.specs.Syntax.{Ops}
use Rattle.wasm_ast.specs.Limits.{max_locals, max_table_entries, max_memory_pages, params_of, FuncWithin}
use Rattle.wasm_ast.proofs.LimitLemmas.{MinWithin, NestsWithin}
use Rattle.wasm_binary.specs.Numbers.{IsU32}
use Rattle.wasm_binary.specs.Opcodes.{table_type_byte, mutability_byte, kind_byte}
use Rattle.wasm_binary.specs.Grammar.{AreItems, IsVector, IsRun, locals_of, AreLocals, IsExpression, IsCode, IsEntry, IsImport, IsTable, IsMemory, IsGlobal, IsExport, IsStart, IsElement, IsSegment, indices_of}
use Rattle.wasm_binary.specs.Inside.Reading.{read_u32, read_byte, read_runs, read_locals, read_code, read_entries, read_codes, read_import, read_table, read_memory, mutability_of, read_mutability, read_global, kind_of, read_kind, read_export, read_start, read_place, read_element, read_segment}
use Rattle.wasm_binary.proofs.ReadComplete.{Complete, Always, always, unlimited, complete_ok, complete_then, complete_need, complete_within, skip_complete, u32_complete, type_complete, limits_complete, sized_complete, vector_complete, byte_vector_complete, name_complete}
use Rattle.wasm_binary.proofs.InstrComplete.{index_complete, expression_complete}

-- ---- locals

runs_complete :
    (limited : Bool) (before : ℕ) (runs : List (ℕ × ValType)) (bytes rest : List ℕ) → AreItems IsRun bytes runs rest
    → Complete (limited ≡ true → before + length (locals_of runs) ≤ max_locals) (locals_of runs, rest)
    (read_runs limited before (length runs) bytes)
unfolding read_runs
runs_complete limited before [] bytes rest h = complete_ok (λ i. ([], sym h i))
runs_complete limited before (run ∷ runs) bytes rest h =
    let more :
    length (locals_of (run ∷ runs)) ≡ run.0 + length (locals_of runs) =
    omega (arith, length-append (replicate run.0 run.1) (locals_of runs), length-replicate run.0 run.1) in
    complete_then _ (u32_complete bytes run.0 h.1.0 h.1.1)
    (complete_within (λ w. unlimited limited max_locals (before + run.0) (λ l. let few = w l in omega arith))
    (complete_then _ (type_complete run.1 h.1.0 h.0 h.1.2)
    (complete_then _ (runs_complete limited (before + run.0) runs h.0 rest h.2) (complete_ok refl)
    (λ w l. let few = w l in omega arith)) always)) always

pub locals_complete :
    (limited : Bool) (params : ℕ) (locals : List ValType) (bytes rest : List ℕ) → AreLocals bytes locals rest
    → Complete (limited ≡ true → params + length locals ≤ max_locals) (locals, rest) (read_locals limited params bytes)
unfolding read_locals
locals_complete limited params locals bytes rest h =
    complete_within (λ w. unlimited limited max_locals params (λ l. let few = w l in omega arith))
    (complete_then _ (u32_complete bytes (length h.0) h.1.0 h.1.1)
    (rw h.2 (runs_complete limited params h.0 h.1.0 rest h.1.2)) always)

-- ---- code

-- the limits of code with this number of parameters
abbrev pub CodeWithin : (params : ℕ) → Func → Type 0
CodeWithin params f = (params + length f.locals ≤ max_locals) × NestsWithin f.body

pub code_complete : (limited : Bool) (params : ℕ) (f : Func) (bytes rest : List ℕ) → IsCode bytes f rest
    → Complete (limited ≡ true → CodeWithin params f) (f, rest) (read_code limited params f.type_index bytes)
unfolding read_code
code_complete limited params f bytes rest h =
    complete_then _ (locals_complete limited params f.locals bytes h.0 h.1)
    (complete_then _ (expression_complete limited f.body h.0 rest h.2) (complete_ok refl) (λ w l. (w l).1))
    (λ w l. (w l).0)

entries_complete :
    (limited : Bool) (types : List FuncType) (fs : List Func) (bytes rest : List ℕ) → AreItems IsEntry bytes fs rest
    → Complete (limited ≡ true → AllByRecursion (FuncWithin types) fs) (fs, rest)
    (read_entries limited types (indices_of fs) bytes)
unfolding read_entries
entries_complete limited types [] bytes rest h = complete_ok (λ i. ([], sym h i))
entries_complete limited types (f ∷ fs) bytes rest h =
    complete_then _
    (sized_complete IsCode (limited ≡ true → CodeWithin (params_of types f.type_index) f)
    (read_code limited (params_of types f.type_index) f.type_index) f
    (λ part k. code_complete limited (params_of types f.type_index) f part [] k) bytes h.0 h.1)
    (complete_then _ (entries_complete limited types fs h.0 rest h.2) (complete_ok refl) (λ w l. (w l).1))
    (λ w l. ((w l).0.locals, (w l).0.nesting))

pub length_indices : (fs : List Func) → length (indices_of fs) ≡ length fs
length_indices [] = refl
length_indices (f ∷ fs) = ap suc (length_indices fs)

pub codes_complete :
    (limited : Bool) (types : List FuncType) (fs : List Func) (bytes rest : List ℕ) → IsVector IsEntry bytes fs rest
    → Complete (limited ≡ true → AllByRecursion (FuncWithin types) fs) (fs, rest)
    (read_codes limited types (indices_of fs) bytes)
unfolding read_codes
codes_complete limited types fs bytes rest h =
    complete_then _ (u32_complete bytes (length fs) h.0 h.1)
    (complete_need (eq-eqb (length fs) (length (indices_of fs)) (sym (length_indices fs)))
    (entries_complete limited types fs h.0 rest h.2)) always

-- ---- the items of the other sections

pub import_complete :
    (x : Import) (bytes rest : List ℕ) → IsImport bytes x rest → Complete Always (x, rest) (read_import bytes)
unfolding read_import
import_complete x bytes rest h =
    complete_then _ (name_complete x.module bytes h.0 h.3) (complete_then _ (name_complete x.name h.0 h.1 h.4)
    (rw h.5
    (complete_then _ (skip_complete (kind_byte kinds.Func) h.2)
    (complete_then _ (u32_complete h.2 x.type_index rest h.6) (complete_ok refl) always) always)) always) always

pub table_complete :
    (limited : Bool) (x : Limits) (bytes rest : List ℕ) → IsTable bytes x rest
    → Complete (limited ≡ true → MinWithin max_table_entries x) (x, rest) (read_table limited bytes)
unfolding read_table
table_complete limited x bytes rest h =
    rw h.1
    (complete_then _ (skip_complete table_type_byte h.0)
    (limits_complete limited max_table_entries x h.0 rest h.2) always)

pub memory_complete :
    (limited : Bool) (x : Limits) (bytes rest : List ℕ) → IsMemory bytes x rest
    → Complete (limited ≡ true → MinWithin max_memory_pages x) (x, rest) (read_memory limited bytes)
unfolding read_memory
memory_complete limited x bytes rest h = limits_complete limited max_memory_pages x bytes rest h

pub mutability_complete :
    (m : Mutability) (bytes rest : List ℕ) → bytes ≡ mutability_byte m ∷ rest
    → Complete Always (m, rest) (read_mutability bytes)
unfolding read_mutability read_byte mutability_of
mutability_complete mutability.Const bytes rest h = rw h (complete_ok refl)
mutability_complete mutability.Var bytes rest h = rw h (complete_ok refl)

pub global_complete :
    (limited : Bool) (x : Global) (bytes rest : List ℕ) → IsGlobal bytes x rest
    → Complete (limited ≡ true → NestsWithin x.init) (x, rest) (read_global limited bytes)
unfolding read_global
global_complete limited x bytes rest h =
    complete_then _ (type_complete x.val_type bytes h.0 h.2)
    (complete_then _ (mutability_complete x.mutability h.0 h.1 h.3)
    (complete_then _ (expression_complete limited x.init h.1 rest h.4) (complete_ok refl) (λ w. w)) always) always

kind_complete :
    (k : ExportKind) (bytes rest : List ℕ) → bytes ≡ kind_byte k ∷ rest → Complete Always (k, rest) (read_kind bytes)
unfolding read_kind read_byte kind_of
kind_complete kinds.Func bytes rest h = rw h (complete_ok refl)
kind_complete kinds.Table bytes rest h = rw h (complete_ok refl)
kind_complete kinds.Memory bytes rest h = rw h (complete_ok refl)
kind_complete kinds.Global bytes rest h = rw h (complete_ok refl)

pub export_complete :
    (x : Export) (bytes rest : List ℕ) → IsExport bytes x rest → Complete Always (x, rest) (read_export bytes)
unfolding read_export
export_complete x bytes rest h =
    complete_then _ (name_complete x.name bytes h.0 h.2) (complete_then _ (kind_complete x.kind h.0 h.1 h.3)
    (complete_then _ (u32_complete h.1 x.index rest h.4) (complete_ok refl) always) always) always

pub start_complete :
    (x : Option ℕ) (bytes rest : List ℕ) → IsStart bytes x rest → Complete Always (x, rest) (read_start bytes)
unfolding read_start
start_complete None bytes rest h = absurd h
start_complete (Some f) bytes rest h = complete_then _ (u32_complete bytes f rest h) (complete_ok refl) always

place_complete :
    (limited : Bool) (index : ℕ) (offset : Ops) (bytes from rest : List ℕ) → IsU32 bytes index from
    → IsExpression from offset rest
    → Complete (limited ≡ true → NestsWithin offset) ((index, offset), rest) (read_place limited bytes)
unfolding read_place
place_complete limited index offset bytes from rest h k =
    complete_then _ (u32_complete bytes index from h)
    (complete_then _ (expression_complete limited offset from rest k) (complete_ok refl) (λ w. w)) always

pub element_complete :
    (limited : Bool) (x : Element) (bytes rest : List ℕ) → IsElement bytes x rest
    → Complete (limited ≡ true → NestsWithin x.offset) (x, rest) (read_element limited bytes)
unfolding read_element
element_complete limited x bytes rest h =
    complete_then _ (place_complete limited x.table x.offset bytes h.0 h.1 h.2 h.3)
    (complete_then _ (vector_complete IsU32 read_u32 index_complete x.funcs h.1 rest h.4) (complete_ok refl) always)
    (λ w. w)

pub segment_complete :
    (limited : Bool) (x : Segment) (bytes rest : List ℕ) → IsSegment bytes x rest
    → Complete (limited ≡ true → NestsWithin x.offset) (x, rest) (read_segment limited bytes)
unfolding read_segment
segment_complete limited x bytes rest h =
    complete_then _ (place_complete limited x.memory x.offset bytes h.0 h.1 h.2 h.3)
    (complete_then _ (byte_vector_complete x.bytes h.1 rest h.4) (complete_ok refl) always) (λ w. w)
