-- What is known of a module that bytes encode: its numbers are in range.
use Rattle.std.proofs.Common.{length, ℕ, ◌-◌, ◌^◌, ◌<◌, List, [], ◌∷◌, Option, Some, None, sym, subst, arith, inl, inr, IfSome}
use Rattle.std.specs.Prelude.{All}
use Rattle.std.specs.List.{AllByRecursion}
use Rattle.std.proofs.lemmas.List.Elements.{All-from_recursion}
use Rattle.wasm_ast.specs.declared.module.Limits.{Limits}
use Rattle.wasm_ast.specs.declared.module.Func.{Func}
use Rattle.wasm_ast.specs.declared.module.Module.{Module}
use Rattle.wasm_ast.specs.declared.values.Value.TheVariants.{I32, I64}
use Rattle.wasm_ast.specs.declared.instr.BlockType.{BlockType}
use Rattle.wasm_ast.specs.declared.instr.BlockType.TheVariants.{Empty, One, Index}
use Rattle.wasm_ast.specs.declared.instr.Simple.{Simple}
use Rattle.wasm_ast.specs.declared.instr.Simple.TheVariants.{Unreachable, Nop, Br, BrIf, BrTable, Return, Call, CallIndirect, Drop, Select, Local, Global, Load, Store, MemorySize, MemoryGrow, Const, Unary, Binary, Test, Compare, Convert}
use Rattle.wasm_ast.specs.Syntax.{Op, simple, block, loop, if', Ops, stop, next}
use Rattle.wasm_ast.specs.Ranged as ranged
use Rattle.wasm_ast.specs.Ranged.{RangedBlockType, RangedSimple, RangedOp, RangedOps, RangedImport, RangedFunc, RangedLimits, RangedGlobal, RangedExport, RangedElement, RangedSegment, Ranged}
use Rattle.wasm_binary.specs.Numbers as numbers
use Rattle.wasm_binary.specs.Numbers.{IsUnsigned, IsLastSigned, IsSigned}
use Rattle.wasm_binary.specs.Opcodes.{end_byte, reserved_byte, else_byte, import_section, function_section, table_section, memory_section, global_section, export_section, start_section, element_section, code_section, data_section}
use Rattle.wasm_binary.specs.Grammar.{Form, AreItems, IsVector, IsBlockType, AreSizes, AreImmediates, IsOp, AreOps, IsEntry, IsImport, IsTable, IsMemory, IsGlobal, IsExport, IsStart, IsElement, IsSegment, IsPart, IsSection, indices_of, UpToImports, UpToFunctions, UpToTables, UpToMemories, UpToGlobals, UpToExports, UpToStart, UpToElements, UpToCodes, Spells}
use Rattle.wasm_binary.proofs.Powers.{fits}

unsigned_below : (bits : ℕ) (bytes : List ℕ) (n : ℕ) (rest : List ℕ) → IsUnsigned bits bytes n rest → n < 2 ^ bits
unsigned_below bits [] n rest h = absurd h
unsigned_below bits (b ∷ bs) n rest (inl h) = omega (arith, h.1.0, h.1.1)
unsigned_below bits (b ∷ bs) n rest (inr h) =
    subst (λ (k : ℕ). k < 2 ^ bits) (sym h.5) (fits bits h.3 b h.2 (unsigned_below (bits - 7) bs h.3 rest h.4) h.1)

last_below : (bits b n : ℕ) → b < 128 → IsLastSigned bits b n → n < 2 ^ bits
last_below bits b n lt (inl h) = omega (arith, h.1, h.2)
last_below bits b n lt (inr h) = omega (arith, h.2)

signed_below : (bits : ℕ) (bytes : List ℕ) (n : ℕ) (rest : List ℕ) → IsSigned bits bytes n rest → n < 2 ^ bits
signed_below bits [] n rest h = absurd h
signed_below bits (b ∷ bs) n rest (inl h) = last_below bits b n h.0 h.1
signed_below bits (b ∷ bs) n rest (inr h) =
    subst (λ (k : ℕ). k < 2 ^ bits) (sym h.5) (fits bits h.3 b h.2 (signed_below (bits - 7) bs h.3 rest h.4) h.1)

items_all :
    {X : Type 0} (IsX : Form X) (P : X → Type 0) → ((x : X) (part rest : List ℕ) → IsX part x rest → P x)
    → (xs : List X) (bytes rest : List ℕ) → AreItems IsX bytes xs rest → AllByRecursion P xs
items_all IsX P each [] bytes rest h = tt
items_all IsX P each (x ∷ xs) bytes rest h = (each x bytes h.0 h.1, items_all IsX P each xs h.0 rest h.2)

section_all :
    {X : Type 0} (id : ℕ) (IsX : Form X) (P : X → Type 0) → ((x : X) (part rest : List ℕ) → IsX part x rest → P x)
    → (xs : List X) (bytes rest : List ℕ) → IsSection id IsX bytes xs rest → AllByRecursion P xs
section_all id IsX P each xs bytes rest (inl h) = items_all IsX P each xs h.3.4.0 [] h.3.4.2
section_all id IsX P each xs bytes rest (inr h) = subst (AllByRecursion P) (sym h.0) tt

u32_below : (n : ℕ) (bytes rest : List ℕ) → numbers.IsU32 bytes n rest → ranged.IsU32 n
u32_below n bytes rest h = unsigned_below 32 bytes n rest h

indices_below : (ns : List ℕ) (bytes rest : List ℕ) → IsVector numbers.IsU32 bytes ns rest → All ranged.IsU32 ns
indices_below ns bytes rest h =
    All-from_recursion ranged.IsU32 ns (items_all numbers.IsU32 ranged.IsU32 u32_below ns h.0 rest h.2)

immediates_below : (s : Simple) (bytes rest : List ℕ) → AreImmediates bytes s rest → RangedSimple s
immediates_below (Br label) bytes rest h = u32_below label bytes rest h
immediates_below (BrIf label) bytes rest h = u32_below label bytes rest h
immediates_below (Call func) bytes rest h = u32_below func bytes rest h
immediates_below (Local op index) bytes rest h = u32_below index bytes rest h
immediates_below (Global op index) bytes rest h = u32_below index bytes rest h
immediates_below (Load op at) bytes rest h = (u32_below at.align bytes h.0 h.1, u32_below at.offset h.0 rest h.2)
immediates_below (Store op at) bytes rest h = (u32_below at.align bytes h.0 h.1, u32_below at.offset h.0 rest h.2)
immediates_below (BrTable other labels) bytes rest h =
    (indices_below labels bytes h.0 h.1, u32_below other h.0 rest h.2)
immediates_below (CallIndirect index) bytes rest h = u32_below index bytes (reserved_byte ∷ rest) h
immediates_below (Const (I32 n)) bytes rest h = signed_below 32 bytes n rest h
immediates_below (Const (I64 n)) bytes rest h = signed_below 64 bytes n rest h
immediates_below Unreachable bytes rest h = tt
immediates_below Nop bytes rest h = tt
immediates_below Return bytes rest h = tt
immediates_below Drop bytes rest h = tt
immediates_below Select bytes rest h = tt
immediates_below MemorySize bytes rest h = tt
immediates_below MemoryGrow bytes rest h = tt
immediates_below (Unary t op) bytes rest h = tt
immediates_below (Binary t op) bytes rest h = tt
immediates_below (Test t op) bytes rest h = tt
immediates_below (Compare t op) bytes rest h = tt
immediates_below (Convert op) bytes rest h = tt

block_type_below : (t : BlockType) (bytes rest : List ℕ) → IsBlockType bytes t rest → RangedBlockType t
block_type_below Empty bytes rest h = tt
block_type_below (One t) bytes rest h = tt
block_type_below (Index i) bytes rest h = h.1

mutual
  op_below : (o : Op) (bytes rest : List ℕ) → IsOp bytes o rest → RangedOp o
  op_below (simple s) bytes rest h = immediates_below s h.0 rest h.2
  op_below (block type body) bytes rest h =
      (block_type_below type h.0 h.1 h.3, ops_below body h.1 (end_byte ∷ rest) h.4)
  op_below (loop type body) bytes rest h =
      (block_type_below type h.0 h.1 h.3, ops_below body h.1 (end_byte ∷ rest) h.4)
  op_below (if' type first second) bytes rest (from, mid, e, t, inl h) =
      (block_type_below type from mid t, ops_below first mid (end_byte ∷ rest) h.0, subst RangedOps (sym h.1) tt)
  op_below (if' type first second) bytes rest (from, mid, e, t, inr h) = (
    block_type_below type from mid t,
    ops_below first mid (else_byte ∷ h.0) h.1,
    ops_below second h.0 (end_byte ∷ rest) h.2,
  )

  ops_below : (os : Ops) (bytes rest : List ℕ) → AreOps bytes os rest → RangedOps os
  ops_below stop bytes rest h = tt
  ops_below (next o os) bytes rest h = (op_below o bytes h.0 h.1, ops_below os h.0 rest h.2)

sizes_below :
    (min : ℕ) (max : Option ℕ) (bytes rest : List ℕ) → AreSizes bytes min max rest
    → ranged.IsU32 min × IfSome max ranged.IsU32
sizes_below min None bytes rest h = (u32_below min h.0 rest h.2, tt)
sizes_below min (Some max) bytes rest h = (u32_below min h.0 h.1 h.3, u32_below max h.1 rest h.4)

limits_below : (l : Limits) (bytes rest : List ℕ) → IsMemory bytes l rest → RangedLimits l
limits_below l bytes rest h = sizes_below l.min l.max bytes rest h

given_below : (x : Option ℕ) (bytes rest : List ℕ) → IsStart bytes x rest → IfSome x ranged.IsU32
given_below None bytes rest h = tt
given_below (Some f) bytes rest h = u32_below f bytes rest h

start_below :
    (x : Option ℕ) (bytes rest : List ℕ) → IsPart start_section IsStart None bytes x rest → IfSome x ranged.IsU32
start_below x bytes rest (inl h) = given_below x h.3.0 [] h.3.4
start_below x bytes rest (inr h) = subst (λ (y : Option ℕ). IfSome y ranged.IsU32) (sym h.0) tt

funcs_below :
    (fs : List Func) → AllByRecursion ranged.IsU32 (indices_of fs) → AllByRecursion (λ f. RangedOps f.body) fs
    → AllByRecursion RangedFunc fs
funcs_below [] a b = tt
funcs_below (f ∷ fs) a b = ((a.0, b.0), funcs_below fs a.1 b.1)

pub spelled_ranged : (bytes : List ℕ) (m : Module) → Spells bytes m → Ranged m
spelled_ranged bytes m s =
    let c : UpToCodes bytes m s.from_segments = s.before in
    let e : UpToElements bytes m c.0 = c.1 in
    let st : UpToStart bytes m e.0 = e.1 in
    let x : UpToExports bytes m st.0 = st.1 in
    let g : UpToGlobals bytes m x.0 = x.1 in
    let me : UpToMemories bytes m g.0 = g.1 in
    let t : UpToTables bytes m me.0 = me.1 in
    let f : UpToFunctions bytes m t.0 = t.1 in
    let i : UpToImports bytes m f.0 = f.1 in
    record {
      imports =
          All-from_recursion RangedImport m.imports
          (section_all import_section IsImport RangedImport (λ i part rest h. u32_below i.type_index h.2 rest h.6)
          m.imports i.0 f.0 i.2);
      funcs = All-from_recursion RangedFunc m.funcs (funcs_below m.funcs
          (section_all function_section numbers.IsU32 ranged.IsU32 u32_below (indices_of m.funcs) f.0
          t.0 f.2)
          (section_all code_section IsEntry (λ f. RangedOps f.body)
          (λ f part rest h. ops_below f.body h.4.0 (end_byte ∷ []) h.4.2) m.funcs c.0
          s.from_segments c.2));
      tables =
          All-from_recursion RangedLimits m.tables
          (section_all table_section IsTable RangedLimits (λ l part rest h. limits_below l h.0 rest h.2) m.tables
          t.0 me.0 t.2);
      memories =
          All-from_recursion RangedLimits m.memories
          (section_all memory_section IsMemory RangedLimits limits_below m.memories me.0
          g.0 me.2);
      globals =
          All-from_recursion RangedGlobal m.globals
          (section_all global_section IsGlobal RangedGlobal
          (λ g part rest h. ops_below g.init h.1 (end_byte ∷ rest) h.4) m.globals g.0
          x.0 g.2);
      exports =
          All-from_recursion RangedExport m.exports
          (section_all export_section IsExport RangedExport (λ e part rest h. u32_below e.index h.1 rest h.4)
          m.exports x.0 st.0 x.2);
      start = start_below m.start st.0 e.0 st.2;
      elements = All-from_recursion RangedElement m.elements (section_all element_section IsElement RangedElement
          (λ e part rest h. (
            u32_below e.table part h.0 h.2,
            ops_below e.offset h.0 (end_byte ∷ h.1) h.3,
            indices_below e.funcs h.1 rest h.4,
          )) m.elements e.0 c.0 e.2);
      segments = All-from_recursion RangedSegment m.segments (section_all data_section IsSegment RangedSegment
          (λ d part rest h. (u32_below d.memory part h.0 h.2, ops_below d.offset h.0 (end_byte ∷ h.1) h.3)) m.segments
          s.from_segments [] s.segments);
    }

-- fewer than 2^32 locals
pub spelled_locals : (bytes : List ℕ) (m : Module) → Spells bytes m → All (λ f. length f.locals < 2 ^ 32) m.funcs
spelled_locals bytes m s =
    let c : UpToCodes bytes m s.from_segments = s.before in
    All-from_recursion (λ f. length f.locals < 2 ^ 32) m.funcs
    (section_all code_section IsEntry (λ f. length f.locals < 2 ^ 32) (λ f part rest h. h.4.1.3) m.funcs
    c.0 s.from_segments c.2)
