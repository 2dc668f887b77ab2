-- If the front of the bytes passes a limit, a limited reader answers so.
use Rattle.std.proofs.Common.{◌≡◌, ℕ, zero, suc, ◌+◌, ◌<◌, ◌≤◌, Bool, true, false, cond, ltb, List, [], ◌∷◌, ◌++◌, length, take, drop, replicate, Result, Ok, Err, Some, None, refl, sym, ap, subst, ◌∙◌, arith, inl, inr}
use Rattle.std.specs.Prelude.{slice_get}
use Rattle.std.proofs.lemmas.Bool.{lt-ltb, eq-eqb}
use Rattle.std.proofs.lemmas.List.{length-append, length-replicate}
use Rattle.std.proofs.lemmas.Option.{same_Some}
use Rattle.wasm_ast.specs.declared.values.ValType.{ValType}
use Rattle.wasm_ast.specs.declared.values.FuncType.{FuncType}
use Rattle.wasm_ast.specs.declared.instr.BlockType.{BlockType}
use Rattle.wasm_ast.specs.declared.module.Global.{Global}
use Rattle.wasm_ast.specs.declared.module.Element.{Element}
use Rattle.wasm_ast.specs.declared.module.Segment.{Segment}
use Rattle.wasm_ast.specs.declared.module.Func.{Func}
use Rattle.wasm_ast.specs.declared.module.Module.{Module}
use Rattle.wasm_ast.specs.Syntax.{Op, Ops, stop, next}
use Rattle.wasm_ast.specs.Limits.{max_module_bytes, max_functions, max_locals, max_results, max_nesting, max_table_entries, max_memory_pages, params_of}
use Rattle.wasm_ast.proofs.LimitLemmas.{TypeWithin, MinWithin, NestsWithin}
use Rattle.wasm_binary.specs.declared.fault.Fault.{Fault}
use Rattle.wasm_binary.specs.declared.fault.Fault.TheVariants.{Bad, Over}
use Rattle.wasm_binary.specs.Numbers.{IsU32}
use Rattle.wasm_binary.specs.Opcodes.{func_type_byte, min_byte, min_max_byte, table_type_byte, if_byte, else_byte, type_section, import_section, function_section, table_section, memory_section, global_section, element_section, code_section, data_section, preamble}
use Rattle.wasm_binary.specs.Grammar.{Form, AreItems, IsRun, IsValType, IsBlockType, locals_of, AreCustom, AreOps, IsCode, IsEntry, IsFuncType, IsImport, IsTable, IsMemory, IsGlobal, IsExport, IsStart, IsElement, IsSegment, indices_of, UpToTypes, UpToImports, UpToFunctions, UpToTables, UpToMemories, UpToGlobals, UpToStart, UpToElements, UpToCodes}
use Rattle.wasm_binary.specs.Limits.{WithinSize, InSection, InVector, NumberOver, ResultsOver, LocalsOver, LimitsOver, TableOver, MemoryOver, OpensBlock, BeginsBlock, TooDeep, BlocksOver, GlobalOver, OffsetOver, EntryOver, too_many_bytes, too_many_results, too_many_imports, too_many_functions, table_too_large, memory_too_large, global_too_deep, element_too_deep, too_many_locals, code_too_deep, segment_too_deep}
use Rattle.wasm_binary.specs.Limits as limits
use Rattle.wasm_binary.specs.Inside.Reading.{◌>>=◌, Read, begins_with, skip_byte, read_u32, read_byte, read_val_type, read_sized, read_items, read_vector, read_block_type, read_min, read_limits, read_enclosed, read_else, read_if, read_nested, opens_block, read_with_opcode, read_op, is_end, read_ops, read_body, inner_of, nesting, read_expression, read_runs, read_locals, read_code, read_entries, read_part, read_section, read_bounded, read_codes, read_func_type, read_import, read_table, read_memory, read_size, read_mutability, read_global, read_export, read_start, read_place, read_element, read_segment, skip_customs, strip_preamble, read_head, read_stores, read_middle, read_funcs, read_last, module_of, read_sections, read_module}
use Rattle.wasm_binary.proofs.ReadLoops.{body_is}
use Rattle.wasm_binary.proofs.ReadComplete.{Complete, begins_cons, skip_complete, u32_complete, type_complete, vector_complete, func_type_complete, block_type_complete, sized_complete}
use Rattle.wasm_binary.proofs.InstrComplete.{op_takes, ops_take, op_complete, op_begins, body_complete, list_of, else_ends}
use Rattle.wasm_binary.proofs.ItemComplete.{CodeWithin, code_complete, locals_complete, mutability_complete, table_complete, memory_complete, global_complete, element_complete, segment_complete, length_indices}
use Rattle.wasm_binary.proofs.ModuleComplete.{Above, above_of, part_above, preamble_complete, all_customs_complete, types_complete, imports_complete, tables_complete, memories_complete, exports_complete, start_section_complete, head_of_module, head_complete, stores_of_module, stores_above, stores_complete, middle_of_module, middle_above, middle_complete, funcs_complete}

abbrev IsOver : {X : Type 0} → Result X Fault → Type 0
IsOver r = r ≡ Err Over

-- what is encoded is read, or a limit is passed before: so a limit is passed
over_then :
    {A B : Type 0} {W : Type 0} (a : A) (r : Result A Fault) (f : A → Result B Fault) → Complete W a r → IsOver (f a)
    → IsOver (r >>= f)
over_then a (Ok z) f h k = ap f h.complete ∙ k
over_then a (Err Bad) f h k = absurd h.complete
over_then a (Err Over) f h k = refl

over_first : {A B : Type 0} (r : Result A Fault) (f : A → Result B Fault) → IsOver r → IsOver (r >>= f)
over_first r f h = rw h refl

-- ---- locals and code

-- a run after which a limit is passed
run_over :
    (before k : ℕ) (run : ℕ × ValType) (mid after : List ℕ) (b : Bool) → IsValType mid run.1 after
    → IsOver (read_runs true (before + run.0) k after)
    → IsOver {X = List ValType × List ℕ}
    (cond b (Err Over)
    (read_val_type mid >>= λ t. read_runs true (before + run.0) k t.1
    >>= λ others. Ok (replicate run.0 t.0 ++ others.0, others.1)))
run_over before k run mid after true t h = refl
run_over before k run mid after false t h =
    over_then (run.1, after) (read_val_type mid) _ (type_complete run.1 mid after t)
    (over_first (read_runs true (before + run.0) k after) _ h)

runs_over :
    (before count : ℕ) (runs : List (ℕ × ValType)) (bytes mid : List ℕ) (n : ℕ) (rest : List ℕ)
    → AreItems IsRun bytes runs mid → length runs < count → IsU32 mid n rest
    → max_locals < before + length (locals_of runs) + n → IsOver (read_runs true before count bytes)
unfolding read_runs
runs_over before zero runs bytes mid n rest h lt u over = absurd (omega arith)
runs_over before (suc k) [] bytes mid n rest h lt u over =
    over_then (n, rest) (read_u32 bytes) _ (u32_complete bytes n rest (subst (λ b. IsU32 b n rest) h u))
    (rw (lt-ltb max_locals (before + n) (omega arith)) refl)
runs_over before (suc k) (run ∷ runs) bytes mid n rest h lt u over =
    let more :
    length (locals_of (run ∷ runs)) ≡ run.0 + length (locals_of runs) =
    omega (arith, length-append (replicate run.0 run.1) (locals_of runs), length-replicate run.0 run.1) in
    over_then (run.0, h.1.0) (read_u32 bytes) _ (u32_complete bytes run.0 h.1.0 h.1.1)
    (run_over before k run h.1.0 h.0 (ltb max_locals (before + run.0)) h.1.2
    (runs_over (before + run.0) k runs h.0 mid n rest h.2 (omega arith) u (omega arith)))

locals_case :
    (params : ℕ) (bytes : List ℕ) (b : Bool)
    → IsOver (read_u32 bytes >>= λ count. read_runs true params count.0 count.1)
    → IsOver (cond b (Err Over) (read_u32 bytes >>= λ count. read_runs true params count.0 count.1))
locals_case params bytes true h = refl
locals_case params bytes false h = h

locals_over : (params : ℕ) (bytes : List ℕ) → LocalsOver params bytes → IsOver (read_locals true params bytes)
unfolding read_locals
locals_over params bytes (inl h) = rw (lt-ltb max_locals params h) refl
locals_over params bytes (inr h) =
    let over = h.7 in
    locals_case params bytes (ltb max_locals params)
    (over_then (h.0, h.1) (read_u32 bytes) _ (u32_complete bytes h.0 h.1 h.4)
    (runs_over params h.0 h.2 h.1 h.3 over.0 over.1 h.5 h.6 over.2 over.3))

sized_over :
    {X : Type 0} (P : List ℕ → Type 0) (read : List ℕ → Read X) → ((part : List ℕ) → P part → IsOver (read part))
    → (bytes : List ℕ) → WithinSize P bytes → IsOver (read_sized read bytes)
unfolding read_sized
sized_over P read each bytes h =
    over_then (h.0, h.1) (read_u32 bytes) _ (u32_complete bytes h.0 h.1 h.2)
    (over_first (read (take h.0 h.1)) _ (each (take h.0 h.1) h.3))

-- ---- instructions

-- after whole instructions, one is read as over a limit
ops_over :
    (more most : ℕ) (os : Ops) (bytes mid : List ℕ) → AreOps bytes os mid → is_end mid ≡ false
    → IsOver (read_op (inner_of more) mid) → length bytes ≤ most → 0 < length mid
    → IsOver (read_ops (inner_of more) most bytes)
unfolding read_ops
ops_over more zero os bytes mid h e o few some = absurd (omega (arith, ops_take os bytes mid h))
ops_over more (suc n) stop bytes mid h e o few some = rw (← h, e, o) refl
ops_over more (suc n) (next p os) bytes mid h e o few some =
    rw (op_begins p bytes h.0 h.1)
    (over_then (p, h.0) (read_op (inner_of more) bytes) _ (op_complete more p bytes h.0 h.1)
    (over_first (read_ops (inner_of more) n h.0) _
    (ops_over more n os h.0 mid h.2 e o (omega (arith, op_takes p bytes h.0 h.1)) some)))

body_over :
    (more : ℕ) (os : Ops) (bytes mid : List ℕ) → AreOps bytes os mid → is_end mid ≡ false
    → IsOver (read_op (inner_of more) mid) → 0 < length mid → IsOver (read_body more bytes)
body_over more os bytes mid h e o some =
    body_is more bytes ∙ ops_over more (length bytes) os bytes mid h e o (omega arith) some

block_begins : (b : ℕ) (rest : List ℕ) → OpensBlock b → is_end (b ∷ rest) ≡ false
unfolding is_end begins_with
block_begins b rest (inl e) = rw e refl
block_begins b rest (inr (inl e)) = rw e refl
block_begins b rest (inr (inr e)) = rw e refl

none_opens : (b : ℕ) (rest : List ℕ) → OpensBlock b → IsOver (read_op (inner_of 0) (b ∷ rest))
unfolding read_op read_byte read_with_opcode opens_block inner_of
none_opens b rest (inl e) = rw e refl
none_opens b rest (inr (inl e)) = rw e refl
none_opens b rest (inr (inr e)) = rw e refl

enclosed_over :
    (read : List ℕ → Read (List Op)) (type : BlockType) (bytes mid : List ℕ) → IsBlockType bytes type mid
    → IsOver (read mid) → IsOver (read_enclosed read bytes)
unfolding read_enclosed
enclosed_over read type bytes mid t o =
    over_then (type, mid) (read_block_type bytes) _ (block_type_complete type bytes mid t) (over_first (read mid) _ o)

if_over :
    (read : List ℕ → Read (List Op)) (type : BlockType) (bytes mid : List ℕ) → IsBlockType bytes type mid
    → IsOver (read mid) → IsOver (read_if read bytes)
unfolding read_if
if_over read type bytes mid t o =
    over_then (type, mid) (read_block_type bytes) _ (block_type_complete type bytes mid t) (over_first (read mid) _ o)

nested_over :
    (more b : ℕ) (from : List ℕ) (type : BlockType) (body : List ℕ) → OpensBlock b → IsBlockType from type body
    → IsOver (read_body more body) → IsOver (read_op (inner_of (suc more)) (b ∷ from))
unfolding read_op read_byte read_with_opcode opens_block inner_of read_nested
nested_over more b from type body (inl e) t o =
    rw e (over_first (read_enclosed (read_body more) from) _ (enclosed_over (read_body more) type from body t o))
nested_over more b from type body (inr (inl e)) t o =
    rw e (over_first (read_enclosed (read_body more) from) _ (enclosed_over (read_body more) type from body t o))
nested_over more b from type body (inr (inr e)) t o = rw e (if_over (read_body more) type from body t o)

else_over :
    (read : List ℕ → Read (List Op)) (from : List ℕ) → IsOver (read from) → IsOver (read_else read (else_byte ∷ from))
unfolding read_else
else_over read from o = rw (begins_cons else_byte from) (over_first (read from) _ o)

arm_over :
    (more : ℕ) (from : List ℕ) (type : BlockType) (body : List ℕ) (then_arm : Ops) (else_arm : List ℕ)
    → IsBlockType from type body → AreOps body then_arm (else_byte ∷ else_arm) → IsOver (read_body more else_arm)
    → IsOver (read_if (read_body more) from)
unfolding read_if
arm_over more from type body then_arm else_arm t h o =
    over_then (type, body) (read_block_type from) _ (block_type_complete type from body t)
    (over_then (list_of then_arm, else_byte ∷ else_arm) (read_body more body) _
    (body_complete more then_arm body (else_byte ∷ else_arm) h (else_ends else_arm))
    (over_first (read_else (read_body more) (else_byte ∷ else_arm)) _ (else_over (read_body more) else_arm o)))

if_opens :
    (more : ℕ) (from : List ℕ) → IsOver (read_if (read_body more) from)
    → IsOver (read_op (inner_of (suc more)) (if_byte ∷ from))
unfolding read_op read_byte read_with_opcode opens_block inner_of read_nested
if_opens more from o = o

same_tail : (b c : ℕ) (bs cs : List ℕ) → b ∷ bs ≡ c ∷ cs → bs ≡ cs
same_tail b c bs cs e = ap (λ (xs : List ℕ). drop 1 xs) e

deep_over : (more : ℕ) (bytes : List ℕ) → TooDeep more bytes → IsOver (read_body more bytes)
unfolding TooDeep
deep_over zero bytes q =
    body_over 0 q.0 bytes (q.1 ∷ q.2) q.3 (block_begins q.1 q.2 q.4) (none_opens q.1 q.2 q.4) (omega arith)
deep_over (suc more) bytes (os, mid, body, h, begins, inl deep) =
    let o :
    IsOver (read_op (inner_of (suc more)) mid) =
    rw begins.3 (nested_over more begins.0 begins.1 begins.2 body begins.4 begins.5 (deep_over more body deep)) in
    let e : is_end mid ≡ false = rw begins.3 (block_begins begins.0 begins.1 begins.4) in
    body_over (suc more) os bytes mid h e o (omega (arith, ap length begins.3))
deep_over (suc more) bytes (os, mid, body, h, begins, inr (rest, i, then_arm, else_arm, k, deep)) =
    let same : begins.1 ≡ rest = same_tail begins.0 if_byte begins.1 rest (sym begins.3 ∙ i) in
    let t : IsBlockType rest begins.2 body = subst (λ from. IsBlockType from begins.2 body) same begins.5 in
    let o :
    IsOver (read_op (inner_of (suc more)) mid) =
    rw i
    (if_opens more rest (arm_over more rest begins.2 body then_arm else_arm t k (deep_over more else_arm deep)))
    in
    let e : is_end mid ≡ false = rw i (block_begins if_byte rest (inr (inr refl))) in
    body_over (suc more) os bytes mid h e o (omega (arith, ap length i))

expression_over : (bytes : List ℕ) → TooDeep max_nesting bytes → IsOver (read_expression true bytes)
unfolding read_expression nesting
expression_over bytes q = over_first (read_body max_nesting bytes) _ (deep_over max_nesting bytes q)

-- ---- the items of other sections

bounded_over :
    {X : Type 0} (most before : ℕ) (read : List ℕ → Read X) (bytes : List ℕ) → NumberOver most before bytes
    → IsOver (read_bounded true most before read bytes)
unfolding read_bounded
bounded_over most before read bytes h =
    over_then (h.0, h.1) (read_u32 bytes) _ (u32_complete bytes h.0 h.1 h.2)
    (rw (lt-ltb most (before + h.0) h.3) refl)

results_over : (bytes : List ℕ) → ResultsOver bytes → IsOver (read_func_type true bytes)
unfolding read_func_type
results_over bytes h =
    rw (h.3, begins_cons func_type_byte h.0)
    (over_then (h.1, h.2) (read_vector read_val_type h.0) _
    (vector_complete IsValType read_val_type type_complete h.1 h.0 h.2 h.4)
    (over_first (read_bounded true max_results 0 read_val_type h.2) _
    (bounded_over max_results 0 read_val_type h.2 h.5)))

min_over : (most : ℕ) (bytes : List ℕ) → NumberOver most 0 bytes → IsOver (read_min true most bytes)
unfolding read_min
min_over most bytes h =
    over_then (h.0, h.1) (read_u32 bytes) _ (u32_complete bytes h.0 h.1 h.2)
    (rw (lt-ltb most h.0 (omega (arith, h.3))) refl)

differ_byte : (rest : List ℕ) → begins_with min_byte (min_max_byte ∷ rest) ≡ false
unfolding begins_with
differ_byte rest = refl

limits_over : (most : ℕ) (bytes : List ℕ) → LimitsOver most bytes → IsOver (read_limits true most bytes)
unfolding read_limits
limits_over most bytes (flag, from, e, inl i, h) =
    rw (e, i, begins_cons min_byte from) (over_first (read_min true most from) _ (min_over most from h))
limits_over most bytes (flag, from, e, inr i, h) =
    rw (e, i, differ_byte from)
    (over_then from (skip_byte min_max_byte (min_max_byte ∷ from)) _ (skip_complete min_max_byte from)
    (over_first (read_min true most from) _ (min_over most from h)))

table_over : (bytes : List ℕ) → TableOver bytes → IsOver (read_table true bytes)
unfolding read_table
table_over bytes h =
    rw h.1
    (over_then h.0 (skip_byte table_type_byte (table_type_byte ∷ h.0)) _ (skip_complete table_type_byte h.0)
    (limits_over max_table_entries h.0 h.2))

memory_over : (bytes : List ℕ) → MemoryOver bytes → IsOver (read_memory true bytes)
unfolding read_memory
memory_over bytes h = limits_over max_memory_pages bytes h

global_over : (bytes : List ℕ) → GlobalOver bytes → IsOver (read_global true bytes)
unfolding read_global
global_over bytes h =
    over_then (h.0, h.2) (read_val_type bytes) _ (type_complete h.0 bytes h.2 h.4)
    (over_then (h.1, h.3) (read_mutability h.2) _ (mutability_complete h.1 h.2 h.3 h.5)
    (over_first (read_expression true h.3) _ (expression_over h.3 h.6)))

place_over : (bytes : List ℕ) → OffsetOver bytes → IsOver (read_place true bytes)
unfolding read_place
place_over bytes h =
    over_then (h.0, h.1) (read_u32 bytes) _ (u32_complete bytes h.0 h.1 h.2)
    (over_first (read_expression true h.1) _ (expression_over h.1 h.3))

element_over : (bytes : List ℕ) → OffsetOver bytes → IsOver (read_element true bytes)
unfolding read_element
element_over bytes h = over_first (read_place true bytes) _ (place_over bytes h)

segment_over : (bytes : List ℕ) → OffsetOver bytes → IsOver (read_segment true bytes)
unfolding read_segment
segment_over bytes h = over_first (read_place true bytes) _ (place_over bytes h)

items_over :
    {X : Type 0} (IsX : Form X) (E : X → Type 0) (Q : List ℕ → Type 0) (read : List ℕ → Read X)
    → ((x : X) (part rest : List ℕ) → IsX part x rest → Complete (true ≡ true → E x) (x, rest) (read part))
    → ((part : List ℕ) → Q part → IsOver (read part))
    → (count : ℕ) (xs : List X) (bytes mid : List ℕ) → AreItems IsX bytes xs mid → length xs < count → Q mid
    → IsOver (read_items read count bytes)
unfolding read_items
items_over IsX E Q read each over zero xs bytes mid h lt q = absurd (omega arith)
items_over IsX E Q read each over (suc n) [] bytes mid h lt q = over_first (read bytes) _ (over bytes (subst Q h q))
items_over IsX E Q read each over (suc n) (x ∷ xs) bytes mid h lt q =
    over_then (x, h.0) (read bytes) _ (each x bytes h.0 h.1)
    (over_first (read_items read n h.0) _ (items_over IsX E Q read each over n xs h.0 mid h.2 (omega arith) q))

vector_over :
    {X : Type 0} (IsX : Form X) (E : X → Type 0) (Q : List ℕ → Type 0) (read : List ℕ → Read X)
    → ((x : X) (part rest : List ℕ) → IsX part x rest → Complete (true ≡ true → E x) (x, rest) (read part))
    → ((part : List ℕ) → Q part → IsOver (read part))
    → (bytes : List ℕ) → InVector IsX (λ _ _. Q) bytes → IsOver (read_vector read bytes)
unfolding read_vector
vector_over IsX E Q read each over bytes h =
    over_then (h.0, h.1) (read_u32 bytes) _ (u32_complete bytes h.0 h.1 h.4)
    (items_over IsX E Q read each over h.0 h.2 h.1 h.3 h.5 h.6 h.7)

-- ---- code

-- code of which P holds with its number of parameters is read as over a limit
abbrev CodeFails : ((params : ℕ) → List ℕ → Type 0) → Type 0
CodeFails P = (params index : ℕ) (part : List ℕ) → P params part → IsOver (read_code true params index part)

locals_fail : CodeFails LocalsOver
unfolding read_code
locals_fail params index part h = over_first (read_locals true params part) _ (locals_over params part h)

blocks_fail : CodeFails BlocksOver
unfolding read_code
blocks_fail params index part h =
    over_then (h.0, h.1) (read_locals true params part) _ (locals_complete true params h.0 part h.1 h.2)
    (over_first (read_expression true h.1) _ (expression_over h.1 h.3))

-- a function with another type index
abbrev at_index : ℕ → Func → Func
at_index index f = record { type_index = index; locals = f.locals; body = f.body }

entries_over :
    (P : (params : ℕ) → List ℕ → Type 0) → CodeFails P
    → (types : List FuncType) (fs : List Func) (indices : List ℕ) (index : ℕ) (bytes mid : List ℕ)
    → AreItems IsEntry bytes fs mid
    → slice_get indices (length fs) ≡ Some index → WithinSize (P (params_of types index)) mid
    → IsOver (read_entries true types indices bytes)
unfolding read_entries
entries_over P each types fs [] index bytes mid h at w = absurd cc
entries_over P each types [] (i ∷ indices) index bytes mid h at w =
    let same : i ≡ index = same_Some i index at in
    over_first (read_sized (read_code true (params_of types i) i) bytes) _
    (sized_over (P (params_of types i)) (read_code true (params_of types i) i) (each (params_of types i) i) bytes
    (subst (λ b. WithinSize (P (params_of types i)) b) h
    (subst (λ j. WithinSize (P (params_of types j)) mid) (sym same) w)))
entries_over P each types (f ∷ fs) (i ∷ indices) index bytes mid h at w =
    over_then (at_index i f, h.0) (read_sized (read_code true (params_of types i) i) bytes) _
    (sized_complete IsCode (true ≡ true → CodeWithin (params_of types i) f)
    (read_code true (params_of types i) i) (at_index i f)
    (λ part k. code_complete true (params_of types i) (at_index i f) part [] k) bytes h.0 h.1)
    (over_first (read_entries true types indices h.0) _ (entries_over P each types fs indices index h.0 mid h.2 at w))

codes_over :
    (P : (params : ℕ) → List ℕ → Type 0) → CodeFails P → (m : Module) (bytes : List ℕ)
    → InVector IsEntry (EntryOver P m) bytes → IsOver (read_codes true m.types (indices_of m.funcs) bytes)
unfolding read_codes
codes_over P each m bytes h =
    let entry : EntryOver P m h.0 h.2 h.3 = h.7 in
    let count : h.0 ≡ length (indices_of m.funcs) = entry.1 ∙ sym (length_indices m.funcs) in
    over_then (h.0, h.1) (read_u32 bytes) _ (u32_complete bytes h.0 h.1 h.4)
    (rw (eq-eqb h.0 (length (indices_of m.funcs)) count)
    (entries_over P each m.types h.2 (indices_of m.funcs) entry.0 h.1 h.3 h.5 entry.2 entry.3))

-- ---- sections

section_over :
    {X : Type 0} (id : ℕ) (P : List ℕ → Type 0) (read : List ℕ → Read (List X))
    → ((part : List ℕ) → P part → IsOver (read part)) → (bytes : List ℕ) → InSection id P bytes
    → IsOver (read_section id read bytes)
unfolding read_part
section_over id P read each bytes h =
    rw (h.1, begins_cons id h.0) (over_first (read_sized read h.0) _ (sized_over P read each h.0 h.2))

in_section_above : (id j : ℕ) (P : List ℕ → Type 0) (bytes : List ℕ) → InSection id P bytes → j < id → Above j bytes
in_section_above id j P bytes h lt = rw h.1 lt

head_fails : (sections : List ℕ) → IsOver (read_head true sections) → IsOver (read_sections true sections)
unfolding read_sections
head_fails sections h = over_first (read_head true sections) _ h

types_over :
    (sections from_types : List ℕ) → AreCustom sections from_types
    → InSection type_section (InVector IsFuncType (λ _ _. ResultsOver)) from_types → IsOver (read_head true sections)
unfolding read_head
types_over sections from_types customs h =
    let above0 :
    Above 0 from_types =
    in_section_above 1 0 (InVector IsFuncType (λ _ _. ResultsOver)) from_types h (omega arith) in
    over_then from_types (skip_customs sections) _ (all_customs_complete sections from_types customs above0)
    (over_first (read_section 1 (read_vector (read_func_type true)) from_types) _
    (section_over 1 (InVector IsFuncType (λ _ _. ResultsOver)) (read_vector (read_func_type true))
    (vector_over IsFuncType TypeWithin ResultsOver (read_func_type true) (func_type_complete true) results_over)
    from_types h))

imports_over :
    (bytes : List ℕ) (m : Module) (rest : List ℕ) (t : UpToTypes bytes m rest)
    → InSection import_section (NumberOver max_functions 0) rest → IsOver (read_head true t.1.0)
unfolding read_head
imports_over bytes m rest t h =
    let above1 : Above 1 rest = in_section_above 2 1 (NumberOver max_functions 0) rest h (omega arith) in
    let above0 :
    Above 0 t.0 = above_of 1 0 IsFuncType m.types t.0 rest t.2 above1 (omega arith) in
    over_then t.0 (skip_customs t.1.0) _ (all_customs_complete t.1.0 t.0 t.1.2 above0)
    (over_then (m.types, rest) (read_section 1 (read_vector (read_func_type true)) t.0) _
    (types_complete true m t.0 rest t.2 above1)
    (over_first (read_section 2 (read_bounded true max_functions 0 read_import) rest) _
    (section_over 2 (NumberOver max_functions 0) (read_bounded true max_functions 0 read_import)
    (bounded_over max_functions 0 read_import) rest h)))

too_many :
    (bytes : List ℕ) (m : Module) (rest : List ℕ) (i : UpToImports bytes m rest)
    → InSection function_section (NumberOver max_functions (length m.imports)) rest
    → IsOver (read_head true i.1.1.0)
unfolding read_head
too_many bytes m rest i h =
    let t : UpToTypes bytes m i.0 = i.1 in
    let above2 :
    Above 2 rest = in_section_above 3 2 (NumberOver max_functions (length m.imports)) rest h (omega arith) in
    let above1 :
    Above 1 i.0 = above_of 2 1 IsImport m.imports i.0 rest i.2 above2 (omega arith) in
    let above0 :
    Above 0 t.0 =
    above_of 1 0 IsFuncType m.types t.0 i.0 t.2 above1 (omega arith) in
    over_then t.0 (skip_customs t.1.0) _ (all_customs_complete t.1.0 t.0 t.1.2 above0)
    (over_then (m.types, i.0) (read_section 1 (read_vector (read_func_type true)) t.0) _
    (types_complete true m t.0 i.0 t.2 above1)
    (over_then (m.imports, rest) (read_section 2 (read_bounded true max_functions 0 read_import) i.0) _
    (imports_complete true m i.0 rest i.2 above2)
    (over_first (read_section 3 (read_bounded true max_functions (length m.imports) read_u32) rest) _
    (section_over 3 (NumberOver max_functions (length m.imports))
    (read_bounded true max_functions (length m.imports) read_u32)
    (bounded_over max_functions (length m.imports) read_u32) rest h))))

-- ---- groups of sections

-- the sections up to the functions are read, and those after them are over a limit
stores_fail :
    (bytes : List ℕ) (m : Module) (rest : List ℕ) (f : UpToFunctions bytes m rest) → Above 3 rest
    → IsOver (read_stores true rest) → IsOver (read_sections true f.1.1.1.0)
unfolding read_sections
stores_fail bytes m rest f above h =
    over_then (head_of_module m, rest) (read_head true f.1.1.1.0) _
    (head_complete true bytes m rest f above) (over_first (read_stores true rest) _ h)

abbrev TablesOver : List ℕ → Type 0
TablesOver = InVector IsTable (λ _ _. TableOver)

abbrev MemoriesOver : List ℕ → Type 0
MemoriesOver = InVector IsMemory (λ _ _. MemoryOver)

abbrev GlobalsOver : List ℕ → Type 0
GlobalsOver = InVector IsGlobal (λ _ _. GlobalOver)

abbrev ElementsOver : List ℕ → Type 0
ElementsOver = InVector IsElement (λ _ _. OffsetOver)

abbrev SegmentsOver : List ℕ → Type 0
SegmentsOver = InVector IsSegment (λ _ _. OffsetOver)

tables_fail :
    (bytes : List ℕ) (m : Module) (rest : List ℕ) (f : UpToFunctions bytes m rest)
    → InSection table_section TablesOver rest → IsOver (read_sections true f.1.1.1.0)
unfolding read_stores
tables_fail bytes m rest f h =
    stores_fail bytes m rest f (in_section_above 4 3 TablesOver rest h (omega arith))
    (over_first (read_section 4 (read_vector (read_size true true)) rest) _
    (section_over 4 TablesOver (read_vector (read_size true true))
    (vector_over IsTable (MinWithin max_table_entries) TableOver (read_size true true) (table_complete true)
    table_over) rest h))

memories_fail :
    (bytes : List ℕ) (m : Module) (rest : List ℕ) (t : UpToTables bytes m rest)
    → InSection memory_section MemoriesOver rest → IsOver (read_sections true t.1.1.1.1.0)
unfolding read_stores
memories_fail bytes m rest t h =
    let above4 : Above 4 rest = in_section_above 5 4 MemoriesOver rest h (omega arith) in
    stores_fail bytes m t.0 t.1
    (above_of 4 3 IsTable m.tables t.0 rest t.2 above4 (omega arith))
    (over_then (m.tables, rest) (read_section 4 (read_vector (read_size true true)) t.0) _
    (tables_complete true m t.0 rest t.2 above4)
    (over_first (read_section 5 (read_vector (read_size false true)) rest) _
    (section_over 5 MemoriesOver (read_vector (read_size false true))
    (vector_over IsMemory (MinWithin max_memory_pages) MemoryOver (read_size false true) (memory_complete true)
    memory_over) rest h)))

globals_fail :
    (bytes : List ℕ) (m : Module) (rest : List ℕ) (t : UpToMemories bytes m rest)
    → InSection global_section GlobalsOver rest → IsOver (read_sections true t.1.1.1.1.1.0)
unfolding read_stores
globals_fail bytes m rest t h =
    let above5 : Above 5 rest = in_section_above 6 5 GlobalsOver rest h (omega arith) in
    let above4 :
    Above 4 t.0 =
    above_of 5 4 IsMemory m.memories t.0 rest t.2 above5 (omega arith) in
    stores_fail bytes m t.1.0 t.1.1
    (above_of 4 3 IsTable m.tables t.1.0 t.0 t.1.2 above4 (omega arith))
    (over_then (m.tables, t.0) (read_section 4 (read_vector (read_size true true)) t.1.0) _
    (tables_complete true m t.1.0 t.0 t.1.2 above4)
    (over_then (m.memories, rest) (read_section 5 (read_vector (read_size false true)) t.0) _
    (memories_complete true m t.0 rest t.2 above5)
    (over_first (read_section 6 (read_vector (read_global true)) rest) _
    (section_over 6 GlobalsOver (read_vector (read_global true))
    (vector_over IsGlobal (λ (g : Global). NestsWithin g.init) GlobalOver (read_global true) (global_complete true)
    global_over) rest h))))

-- the sections up to the globals are read
middle_fail :
    (bytes : List ℕ) (m : Module) (rest : List ℕ) (g : UpToGlobals bytes m rest) → Above 6 rest
    → IsOver (read_middle true rest) → IsOver (read_sections true g.1.1.1.1.1.1.0)
unfolding read_sections
middle_fail bytes m rest g above h =
    over_then (head_of_module m, g.1.1.0)
    (read_head true g.1.1.1.1.1.1.0) _
    (head_complete true bytes m g.1.1.0 g.1.1.1
    (stores_above bytes m rest g above))
    (over_then (stores_of_module m, rest) (read_stores true g.1.1.0) _
    (stores_complete true bytes m rest g above) (over_first (read_middle true rest) _ h))

elements_fail :
    (bytes : List ℕ) (m : Module) (rest : List ℕ) (s : UpToStart bytes m rest)
    → InSection element_section ElementsOver rest
    → IsOver (read_sections true s.1.1.1.1.1.1.1.1.0)
unfolding read_middle
elements_fail bytes m rest s h =
    let above8 : Above 8 rest = in_section_above 9 8 ElementsOver rest h (omega arith) in
    let above7 :
    Above 7 s.0 = part_above 8 7 IsStart None s.0 m.start rest s.2 above8 (omega arith) in
    middle_fail bytes m s.1.0 s.1.1
    (above_of 7 6 IsExport m.exports s.1.0 s.0 s.1.2 above7 (omega arith))
    (over_then (m.exports, s.0) (read_section 7 (read_vector read_export) s.1.0) _
    (exports_complete m s.1.0 s.0 s.1.2 above7)
    (over_then (m.start, rest) (read_part 8 read_start None s.0) _
    (start_section_complete m s.0 rest s.2 above8)
    (over_first (read_section 9 (read_vector (read_element true)) rest) _
    (section_over 9 ElementsOver (read_vector (read_element true))
    (vector_over IsElement (λ (e : Element). NestsWithin e.offset) OffsetOver (read_element true)
    (element_complete true) element_over) rest h))))

-- what follows the elements, if the sections before it are read
abbrev after_middle : Module → List ℕ → Result Module Fault
after_middle m rest =
    read_funcs true m.types (indices_of m.funcs) rest >>= λ funcs. read_last true funcs.1
    >>= λ segments. Ok (module_of (head_of_module m) (stores_of_module m) (middle_of_module m) funcs.0 segments)

-- the sections up to the elements are read, and what follows them is over a limit
after_elements :
    (bytes : List ℕ) (m : Module) (rest : List ℕ) (e : UpToElements bytes m rest) → Above 9 rest
    → IsOver (after_middle m rest)
    → IsOver (read_sections true e.1.1.1.1.1.1.1.1.1.0)
unfolding read_sections
after_elements bytes m rest e above h =
    let g : UpToGlobals bytes m e.1.1.0 = e.1.1.1 in
    let above6 : Above 6 e.1.1.0 = middle_above bytes m rest e above in
    over_then (head_of_module m, g.1.1.0)
    (read_head true g.1.1.1.1.1.1.0) _
    (head_complete true bytes m g.1.1.0 g.1.1.1
    (stores_above bytes m e.1.1.0 g above6))
    (over_then (stores_of_module m, e.1.1.0) (read_stores true g.1.1.0) _
    (stores_complete true bytes m e.1.1.0 g above6)
    (over_then (middle_of_module m, rest) (read_middle true e.1.1.0) _
    (middle_complete true bytes m rest e above) h))

code_fails :
    (P : (params : ℕ) → List ℕ → Type 0) → CodeFails P
    → (bytes : List ℕ) (m : Module) (rest : List ℕ) (e : UpToElements bytes m rest)
    → InSection code_section (InVector IsEntry (EntryOver P m)) rest
    → IsOver (read_sections true e.1.1.1.1.1.1.1.1.1.0)
unfolding read_funcs
code_fails P each bytes m rest e h =
    after_elements bytes m rest e (in_section_above 10 9 (InVector IsEntry (EntryOver P m)) rest h (omega arith))
    (over_first (read_funcs true m.types (indices_of m.funcs) rest) _
    (over_first (read_section 10 (read_codes true m.types (indices_of m.funcs)) rest) _
    (section_over 10 (InVector IsEntry (EntryOver P m)) (read_codes true m.types (indices_of m.funcs))
    (codes_over P each m) rest h)))

segments_fail :
    (bytes : List ℕ) (m : Module) (rest : List ℕ) (c : UpToCodes bytes m rest)
    → InSection data_section SegmentsOver rest
    → IsOver (read_sections true c.1.1.1.1.1.1.1.1.1.1.0)
unfolding read_last
segments_fail bytes m rest c h =
    let above10 : Above 10 rest = in_section_above 11 10 SegmentsOver rest h (omega arith) in
    after_elements bytes m c.0 c.1
    (above_of 10 9 IsEntry m.funcs c.0 rest c.2 above10 (omega arith))
    (over_then (m.funcs, rest) (read_funcs true m.types (indices_of m.funcs) c.0) _
    (funcs_complete true bytes m rest c above10)
    (over_first (read_last true rest) _ (over_first (read_section 11 (read_vector (read_segment true)) rest) _
    (section_over 11 SegmentsOver (read_vector (read_segment true))
    (vector_over IsSegment (λ (d : Segment). NestsWithin d.offset) OffsetOver (read_segment true)
    (segment_complete true) segment_over) rest h))))

-- ---- modules

-- after the preamble a limit is passed, or before it there are too many bytes
after_preamble :
    (bytes sections : List ℕ) → bytes ≡ preamble ++ sections → IsOver (read_sections true sections) → (b : Bool)
    → IsOver (cond b (Err Over) (strip_preamble bytes >>= λ rest. read_sections true rest))
after_preamble bytes sections e h true = refl
after_preamble bytes sections e h false =
    over_then sections (strip_preamble bytes) _ (preamble_complete bytes sections e) h

begun :
    (bytes : List ℕ) (m : Module) (rest : List ℕ) (t : UpToTypes bytes m rest) → IsOver (read_sections true t.1.0)
    → IsOver (read_module true bytes)
unfolding read_module
begun bytes m rest t h = after_preamble bytes t.1.0 t.1.1 h (ltb max_module_bytes (length bytes))

pub read_over : (bytes : List ℕ) → limits.Over bytes → read_module true bytes ≡ Err Over
unfolding read_module
read_over bytes (too_many_bytes h) = rw (lt-ltb max_module_bytes (length bytes) h) refl
read_over bytes (too_many_results m rest p h) =
    after_preamble bytes p.0 p.1 (head_fails p.0 (types_over p.0 rest p.2 h))
    (ltb max_module_bytes (length bytes))
read_over bytes (too_many_imports m rest t h) =
    begun bytes m rest t (head_fails t.1.0 (imports_over bytes m rest t h))
read_over bytes (too_many_functions m rest i h) =
    begun bytes m i.0 i.1 (head_fails i.1.1.0 (too_many bytes m rest i h))
read_over bytes (table_too_large m rest f h) =
    begun bytes m f.1.0 f.1.1 (tables_fail bytes m rest f h)
read_over bytes (memory_too_large m rest t h) =
    begun bytes m t.1.1.0 t.1.1.1 (memories_fail bytes m rest t h)
read_over bytes (global_too_deep m rest t h) =
    begun bytes m t.1.1.1.0 t.1.1.1.1 (globals_fail bytes m rest t h)
read_over bytes (element_too_deep m rest s h) =
    let i = s.1.1.1.1.1.1 in
    begun bytes m i.0 i.1 (elements_fail bytes m rest s h)
read_over bytes (too_many_locals m rest e h) =
    let i = e.1.1.1.1.1.1.1 in
    begun bytes m i.0 i.1 (code_fails LocalsOver locals_fail bytes m rest e h)
read_over bytes (code_too_deep m rest e h) =
    let i = e.1.1.1.1.1.1.1 in
    begun bytes m i.0 i.1 (code_fails BlocksOver blocks_fail bytes m rest e h)
read_over bytes (segment_too_deep m rest c h) =
    let i = c.1.1.1.1.1.1.1.1 in
    begun bytes m i.0 i.1 (segments_fail bytes m rest c h)
