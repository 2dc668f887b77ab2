-- The readers of sections and modules are complete, but for limits. A reader that is not limited tests
-- none, so it answers whatever bytes encode.
use Rattle.std.proofs.Common.{◌≡◌, ℕ, zero, suc, ◌+◌, ◌<◌, ◌≤◌, Bool, true, false, List, [], ◌∷◌, ◌++◌, length, drop, None, refl, sym, ap, subst, arith, inl, inr}
use Rattle.std.specs.List.{AllByRecursion}
use Rattle.std.proofs.lemmas.Bool.{eq-eqb}
use Rattle.std.proofs.lemmas.List.Elements.{recursion_from_All}
use Rattle.wasm_ast.specs.declared.module.Global.{Global}
use Rattle.wasm_ast.specs.declared.module.Element.{Element}
use Rattle.wasm_ast.specs.declared.module.Segment.{Segment}
use Rattle.wasm_ast.specs.declared.module.Module.{Module}
use Rattle.wasm_ast.specs.Limits.{max_module_bytes, max_functions, max_table_entries, max_memory_pages, FuncWithin, Within}
use Rattle.wasm_ast.proofs.LimitLemmas.{TypeWithin, MinWithin, NestsWithin}
use Rattle.wasm_binary.specs.Numbers.{IsU32}
use Rattle.wasm_binary.specs.Opcodes.{custom_section, type_section, import_section, function_section, table_section, memory_section, global_section, export_section, start_section, element_section, code_section, data_section, preamble}
use Rattle.wasm_binary.specs.Grammar.{Form, AreItems, IsVector, IsSized, IsEntry, IsFuncType, IsImport, IsTable, IsMemory, IsGlobal, IsExport, IsStart, IsElement, IsSegment, IsNamed, IsCustom, AreCustom, IsPart, IsSection, indices_of, UpToTypes, UpToImports, UpToFunctions, UpToGlobals, UpToElements, UpToCodes, Spells}
use Rattle.wasm_binary.specs.Inside.Reading.{Read, read_u32, begins_with, read_vector, read_custom_name, skip_custom, skip_some_customs, skip_customs, read_part, read_section, read_bounded, read_codes, read_func_type, read_import, read_size, read_global, read_export, read_start, read_element, read_segment, strip_preamble, Head, read_head, Stored, read_stores, Between, read_middle, read_funcs, read_last, read_sections, read_module}
use Rattle.wasm_binary.proofs.ReadComplete.{Complete, Always, always, differ, unlimited, complete_ok, complete_then, complete_weaker, complete_need, complete_first, complete_second, complete_within, begins_cons, sized_complete, sized_takes, vector_complete, bounded_complete, vector_within, name_complete, func_type_complete}
use Rattle.wasm_binary.proofs.InstrComplete.{index_complete}
use Rattle.wasm_binary.proofs.ItemComplete.{length_indices, codes_complete, import_complete, table_complete, memory_complete, global_complete, export_complete, start_complete, element_complete, segment_complete}

-- ---- sections

-- what does not begin as a section of this id or of a lower one
abbrev pub Above : ℕ → List ℕ → Type 0
Above id [] = Unit {0}
Above id (b ∷ bs) = id < b

above_not : (id j : ℕ) (bytes : List ℕ) → Above id bytes → j ≤ id → begins_with j bytes ≡ false
unfolding begins_with
above_not id j [] h le = refl
above_not id j (b ∷ bs) h le = differ b j (omega arith)

above_less : (id j : ℕ) (bytes : List ℕ) → Above id bytes → j ≤ id → Above j bytes
above_less id j [] h le = tt
above_less id j (b ∷ bs) h le = omega arith

custom_complete :
    (x : List ℕ × List ℕ) (bytes rest : List ℕ) → IsCustom bytes x rest
    → Complete Always rest (skip_custom (drop 1 bytes)) × (begins_with custom_section bytes ≡ true)
    × (length rest < length bytes)
unfolding skip_custom read_custom_name
custom_complete x bytes rest h =
    let s : IsSized (λ part name left. IsNamed part (name, x.1) left) h.0 x.0 rest = h.2 in (
      rw h.1
          (complete_then _
          (sized_complete (λ part name left. IsNamed part (name, x.1) left) Always read_custom_name x.0
          (λ part k. complete_then _ (name_complete x.0 part x.1 k.0) (complete_ok refl) always) h.0 rest s)
          (complete_ok refl) always),
      rw h.1 (begins_cons custom_section h.0),
      omega (arith, ap length h.1, sized_takes (λ part name left. IsNamed part (name, x.1) left) h.0 x.0 rest s),
    )

customs_complete :
    (xs : List (List ℕ × List ℕ)) (most : ℕ) (bytes rest : List ℕ) → AreItems IsCustom bytes xs rest → Above 0 rest
    → length bytes ≤ most → Complete Always rest (skip_some_customs most bytes)
unfolding skip_some_customs
customs_complete [] zero bytes rest h above few = complete_ok (sym h)
customs_complete [] (suc n) bytes rest h above few =
    complete_second _ (above_not 0 0 bytes (subst (Above 0) h above) (omega arith)) (complete_ok (sym h))
customs_complete (x ∷ xs) zero bytes rest h above few =
    let k = custom_complete x bytes h.0 h.1 in absurd (omega (arith, k.2))
customs_complete (x ∷ xs) (suc n) bytes rest h above few =
    let k = custom_complete x bytes h.0 h.1 in
    complete_first _ k.1 (complete_then _ k.0 (customs_complete xs n h.0 rest h.2 above (omega (arith, k.2))) always)

pub all_customs_complete :
    (bytes rest : List ℕ) → AreCustom bytes rest → Above 0 rest → Complete Always rest (skip_customs bytes)
unfolding skip_customs
all_customs_complete bytes rest h above = customs_complete h.0 (length bytes) bytes rest h.1 above (omega arith)

pub part_complete :
    {X : Type 0} (id : ℕ) (IsXs : Form X) (W : Type 0) (read : List ℕ → Read X) (empty xs : X)
    → ((part : List ℕ) → IsXs part xs [] → Complete W (xs, []) (read part))
    → (bytes rest : List ℕ) → IsPart id IsXs empty bytes xs rest → Above id rest
    → Complete W (xs, rest) (read_part id read empty bytes)
unfolding read_part
part_complete id IsXs W read empty xs each bytes rest (inl h) above =
    rw h.2 (complete_first _ (begins_cons id h.0)
    (complete_then _ (sized_complete IsXs W read xs each h.0 h.1 h.3)
    (complete_then _ (all_customs_complete h.1 rest h.4 (above_less id 0 rest above (omega arith)))
    (complete_ok refl) always) (λ w. w)))
part_complete id IsXs W read empty xs each bytes rest (inr h) above =
    complete_second _ (above_not id id bytes (subst (Above id) h.1 above) (omega arith))
    (complete_ok (λ i. (sym h.0 i, sym h.1 i)))

pub part_above :
    {X : Type 0} (id j : ℕ) (IsXs : Form X) (empty : X) (bytes : List ℕ) (xs : X) (rest : List ℕ)
    → IsPart id IsXs empty bytes xs rest → Above id rest → j < id → Above j bytes
part_above id j IsXs empty bytes xs rest (inl h) above lt = rw h.2 lt
part_above id j IsXs empty bytes xs rest (inr h) above lt =
    subst (Above j) h.1 (above_less id j rest above (omega arith))

-- ---- modules

pub preamble_complete : (bytes rest : List ℕ) → bytes ≡ preamble ++ rest → Complete Always rest (strip_preamble bytes)
unfolding strip_preamble
preamble_complete bytes rest h = rw h (complete_need refl (complete_ok refl))

-- a section that is a vector
pub vector_section :
    {X : Type 0} (limited : Bool) (id : ℕ) (IsX : Form X) (E : X → Type 0) (read : List ℕ → Read X)
    → ((x : X) (part rest : List ℕ) → IsX part x rest → Complete (limited ≡ true → E x) (x, rest) (read part))
    → (xs : List X) (bytes rest : List ℕ) → IsSection id IsX bytes xs rest → Above id rest
    → Complete (limited ≡ true → AllByRecursion E xs) (xs, rest) (read_section id (read_vector read) bytes)
vector_section limited id IsX E read each xs bytes rest h above =
    part_complete id (IsVector IsX) (limited ≡ true → AllByRecursion E xs) (read_vector read) [] xs
    (λ part k. vector_within limited IsX E read each xs part [] k) bytes rest h above

pub plain_section :
    {X : Type 0} (id : ℕ) (IsX : Form X) (read : List ℕ → Read X)
    → ((x : X) (part rest : List ℕ) → IsX part x rest → Complete Always (x, rest) (read part))
    → (xs : List X) (bytes rest : List ℕ) → IsSection id IsX bytes xs rest → Above id rest
    → Complete Always (xs, rest) (read_section id (read_vector read) bytes)
plain_section id IsX read each xs bytes rest h above =
    part_complete id (IsVector IsX) Always (read_vector read) [] xs
    (λ part k. vector_complete IsX read each xs part [] k) bytes rest h above

functions_section :
    {X : Type 0} (limited : Bool) (id before : ℕ) (IsX : Form X) (read : List ℕ → Read X)
    → ((x : X) (part rest : List ℕ) → IsX part x rest → Complete Always (x, rest) (read part))
    → (xs : List X) (bytes rest : List ℕ) → IsSection id IsX bytes xs rest → Above id rest
    → Complete (limited ≡ true → before + length xs ≤ max_functions) (xs, rest)
    (read_section id (read_bounded limited max_functions before read) bytes)
functions_section limited id before IsX read each xs bytes rest h above =
    part_complete id (IsVector IsX) (limited ≡ true → before + length xs ≤ max_functions)
    (read_bounded limited max_functions before read) [] xs
    (λ part k. bounded_complete limited max_functions before IsX read each xs part [] k) bytes rest h above

pub above_of :
    {X : Type 0} (id j : ℕ) (IsX : Form X) (xs : List X) (bytes rest : List ℕ) → IsSection id IsX bytes xs rest
    → Above id rest → j < id → Above j bytes
above_of id j IsX xs bytes rest h above lt = part_above id j (IsVector IsX) [] bytes xs rest h above lt

-- the sections of m, each but for limits
pub types_complete :
    (limited : Bool) (m : Module) (bytes rest : List ℕ)
    → IsSection type_section IsFuncType bytes m.types rest → Above 1 rest
    → Complete (limited ≡ true → AllByRecursion TypeWithin m.types) (m.types, rest)
    (read_section type_section (read_vector (read_func_type limited)) bytes)
types_complete limited m bytes rest h above =
    vector_section limited type_section IsFuncType TypeWithin (read_func_type limited)
    (func_type_complete limited) m.types bytes rest h above

pub imports_complete :
    (limited : Bool) (m : Module) (bytes rest : List ℕ)
    → IsSection import_section IsImport bytes m.imports rest → Above 2 rest
    → Complete (limited ≡ true → 0 + length m.imports ≤ max_functions) (m.imports, rest)
    (read_section import_section (read_bounded limited max_functions 0 read_import) bytes)
imports_complete limited m bytes rest h above =
    functions_section limited import_section 0 IsImport read_import import_complete m.imports bytes rest h above

-- types, imports and type indices of a module
abbrev pub head_of_module : Module → Head
head_of_module m = record { types = m.types; imports = m.imports; indices = indices_of m.funcs }

pub head_complete :
    (limited : Bool) (bytes : List ℕ) (m : Module) (rest : List ℕ) (f : UpToFunctions bytes m rest) → Above 3 rest
    → Complete
    (limited ≡ true
    → AllByRecursion TypeWithin m.types × (length m.imports + length (indices_of m.funcs) ≤ max_functions))
    (head_of_module m, rest) (read_head limited f.1.1.1.0)
unfolding read_head
head_complete limited bytes m rest f above =
    let i : UpToImports bytes m f.0 = f.1 in
    let t : UpToTypes bytes m i.0 = i.1 in
    let above2 :
    Above 2 f.0 =
    above_of 3 2 IsU32 (indices_of m.funcs) f.0 rest f.2 above (omega arith) in
    let above1 :
    Above 1 i.0 =
    above_of 2 1 IsImport m.imports i.0 f.0 i.2 above2 (omega arith) in
    let above0 :
    Above 0 t.0 =
    above_of 1 0 IsFuncType m.types t.0 i.0 t.2 above1 (omega arith) in
    complete_then _ (all_customs_complete t.1.0 t.0 t.1.2 above0)
    (complete_then _ (types_complete limited m t.0 i.0 t.2 above1)
    (complete_then _ (imports_complete limited m i.0 f.0 i.2 above2)
    (complete_then _
    (functions_section limited function_section (length m.imports) IsU32 read_u32 index_complete
    (indices_of m.funcs) f.0 rest f.2 above)
    (complete_ok refl)
    (λ w l. (w l).1))
    (λ w l. let few = (w l).1 in omega arith))
    (λ w l. (w l).0)) always

-- within the limits, if they are tested
abbrev pub Fits : Bool → Module → Type 0
Fits limited m = limited ≡ true → Within m

pub tables_complete :
    (limited : Bool) (m : Module) (bytes rest : List ℕ)
    → IsSection table_section IsTable bytes m.tables rest → Above 4 rest
    → Complete (Fits limited m) (m.tables, rest)
    (read_section table_section (read_vector (read_size true limited)) bytes)
tables_complete limited m bytes rest h above =
    complete_weaker
    (vector_section limited table_section IsTable (MinWithin max_table_entries) (read_size true limited)
    (table_complete limited) m.tables bytes rest h above)
    (λ w l. recursion_from_All (MinWithin max_table_entries) m.tables (w l).tables)

pub memories_complete :
    (limited : Bool) (m : Module) (bytes rest : List ℕ)
    → IsSection memory_section IsMemory bytes m.memories rest → Above 5 rest
    → Complete (Fits limited m) (m.memories, rest)
    (read_section memory_section (read_vector (read_size false limited)) bytes)
memories_complete limited m bytes rest h above =
    complete_weaker
    (vector_section limited memory_section IsMemory (MinWithin max_memory_pages) (read_size false limited)
    (memory_complete limited) m.memories bytes rest h above)
    (λ w l. recursion_from_All (MinWithin max_memory_pages) m.memories (w l).memories)

globals_complete :
    (limited : Bool) (m : Module) (bytes rest : List ℕ)
    → IsSection global_section IsGlobal bytes m.globals rest → Above 6 rest
    → Complete (Fits limited m) (m.globals, rest)
    (read_section global_section (read_vector (read_global limited)) bytes)
globals_complete limited m bytes rest h above =
    complete_weaker
    (vector_section limited global_section IsGlobal (λ (g : Global). NestsWithin g.init) (read_global limited)
    (global_complete limited) m.globals bytes rest h above)
    (λ w l. recursion_from_All (λ (g : Global). NestsWithin g.init) m.globals (w l).globals)

elements_complete :
    (limited : Bool) (m : Module) (bytes rest : List ℕ)
    → IsSection element_section IsElement bytes m.elements rest → Above 9 rest
    → Complete (Fits limited m) (m.elements, rest)
    (read_section element_section (read_vector (read_element limited)) bytes)
elements_complete limited m bytes rest h above =
    complete_weaker
    (vector_section limited element_section IsElement (λ (e : Element). NestsWithin e.offset) (read_element limited)
    (element_complete limited) m.elements bytes rest h above)
    (λ w l. recursion_from_All (λ (e : Element). NestsWithin e.offset) m.elements (w l).elements)

pub exports_complete :
    (m : Module) (bytes rest : List ℕ) → IsSection export_section IsExport bytes m.exports rest → Above 7 rest
    → Complete Always (m.exports, rest) (read_section export_section (read_vector read_export) bytes)
exports_complete m bytes rest h above =
    plain_section export_section IsExport read_export export_complete m.exports bytes rest h above

pub start_section_complete :
    (m : Module) (bytes rest : List ℕ) → IsPart start_section IsStart None bytes m.start rest → Above 8 rest
    → Complete Always (m.start, rest) (read_part start_section read_start None bytes)
start_section_complete m bytes rest h above =
    part_complete start_section IsStart Always read_start None m.start (λ part k. start_complete m.start part [] k)
    bytes rest h above

-- ---- groups of sections

abbrev pub stores_of_module : Module → Stored
stores_of_module m = record { tables = m.tables; memories = m.memories; globals = m.globals }

abbrev pub middle_of_module : Module → Between
middle_of_module m = record { exports = m.exports; start = m.start; elements = m.elements }

pub stores_above :
    (bytes : List ℕ) (m : Module) (rest : List ℕ) (g : UpToGlobals bytes m rest) → Above 6 rest
    → Above 3 g.1.1.0
stores_above bytes m rest g above =
    let above5 :
    Above 5 g.0 = above_of 6 5 IsGlobal m.globals g.0 rest g.2 above (omega arith) in
    let above4 :
    Above 4 g.1.0 =
    above_of 5 4 IsMemory m.memories g.1.0 g.0 g.1.2 above5 (omega arith) in
    above_of 4 3 IsTable m.tables g.1.1.0 g.1.0 g.1.1.2
    above4 (omega arith)

pub stores_complete :
    (limited : Bool) (bytes : List ℕ) (m : Module) (rest : List ℕ) (g : UpToGlobals bytes m rest) → Above 6 rest
    → Complete (Fits limited m) (stores_of_module m, rest) (read_stores limited g.1.1.0)
unfolding read_stores
stores_complete limited bytes m rest g above =
    let above5 :
    Above 5 g.0 = above_of 6 5 IsGlobal m.globals g.0 rest g.2 above (omega arith) in
    let above4 :
    Above 4 g.1.0 =
    above_of 5 4 IsMemory m.memories g.1.0 g.0 g.1.2 above5 (omega arith) in
    complete_then _
    (tables_complete limited m g.1.1.0 g.1.0 g.1.1.2 above4)
    (complete_then _ (memories_complete limited m g.1.0 g.0 g.1.2 above5)
    (complete_then _ (globals_complete limited m g.0 rest g.2 above) (complete_ok refl) (λ w. w))
    (λ w. w)) (λ w. w)

pub middle_above :
    (bytes : List ℕ) (m : Module) (rest : List ℕ) (e : UpToElements bytes m rest) → Above 9 rest
    → Above 6 e.1.1.0
middle_above bytes m rest e above =
    let above8 :
    Above 8 e.0 =
    above_of 9 8 IsElement m.elements e.0 rest e.2 above (omega arith) in
    let above7 :
    Above 7 e.1.0 =
    part_above 8 7 IsStart None e.1.0 m.start e.0 e.1.2 above8 (omega arith) in
    above_of 7 6 IsExport m.exports e.1.1.0 e.1.0 e.1.1.2
    above7 (omega arith)

pub middle_complete :
    (limited : Bool) (bytes : List ℕ) (m : Module) (rest : List ℕ) (e : UpToElements bytes m rest) → Above 9 rest
    → Complete (Fits limited m) (middle_of_module m, rest) (read_middle limited e.1.1.0)
unfolding read_middle
middle_complete limited bytes m rest e above =
    let above8 :
    Above 8 e.0 =
    above_of 9 8 IsElement m.elements e.0 rest e.2 above (omega arith) in
    let above7 :
    Above 7 e.1.0 =
    part_above 8 7 IsStart None e.1.0 m.start e.0 e.1.2 above8 (omega arith) in
    complete_then _ (exports_complete m e.1.1.0 e.1.0 e.1.1.2 above7)
    (complete_then _ (start_section_complete m e.1.0 e.0 e.1.2 above8)
    (complete_then _ (elements_complete limited m e.0 rest e.2 above) (complete_ok refl) (λ w. w))
    always) always

pub funcs_complete :
    (limited : Bool) (bytes : List ℕ) (m : Module) (rest : List ℕ) (c : UpToCodes bytes m rest) → Above 10 rest
    → Complete (Fits limited m) (m.funcs, rest) (read_funcs limited m.types (indices_of m.funcs) c.0)
unfolding read_funcs
funcs_complete limited bytes m rest c above =
    complete_then _
    (part_complete code_section (IsVector IsEntry) (limited ≡ true → AllByRecursion (FuncWithin m.types) m.funcs)
    (read_codes limited m.types (indices_of m.funcs)) [] m.funcs
    (λ part k. codes_complete limited m.types m.funcs part [] k) c.0 rest c.2 above)
    (complete_need (eq-eqb (length m.funcs) (length (indices_of m.funcs)) (sym (length_indices m.funcs)))
    (complete_ok refl))
    (λ w l. recursion_from_All (FuncWithin m.types) m.funcs (w l).funcs)

last_complete :
    (limited : Bool) (bytes : List ℕ) (m : Module) (s : Spells bytes m)
    → Complete (Fits limited m) m.segments (read_last limited s.from_segments)
unfolding read_last
last_complete limited bytes m s =
    complete_then _
    (vector_section limited data_section IsSegment (λ (d : Segment). NestsWithin d.offset) (read_segment limited)
    (segment_complete limited) m.segments s.from_segments [] s.segments tt)
    (complete_need refl (complete_ok refl))
    (λ w l. recursion_from_All (λ (d : Segment). NestsWithin d.offset) m.segments (w l).segments)

sections_complete :
    (limited : Bool) (bytes : List ℕ) (m : Module) (s : Spells bytes m)
    → Complete (Fits limited m) m
    (read_sections limited s.before.1.1.1.1.1.1.1.1.1.1.0)
unfolding read_sections
sections_complete limited bytes m s =
    let c : UpToCodes bytes m s.from_segments = s.before in
    let e : UpToElements bytes m c.0 = c.1 in
    let g : UpToGlobals bytes m e.1.1.0 = e.1.1.1 in
    let above10 :
    Above 10 s.from_segments = above_of 11 10 IsSegment m.segments s.from_segments [] s.segments tt (omega arith) in
    let above9 :
    Above 9 c.0 =
    above_of 10 9 IsEntry m.funcs c.0 s.from_segments c.2 above10 (omega arith) in
    let above6 : Above 6 e.1.1.0 = middle_above bytes m c.0 e above9 in
    let above3 : Above 3 g.1.1.0 = stores_above bytes m e.1.1.0 g above6 in
    complete_then _ (head_complete limited bytes m g.1.1.0 g.1.1.1 above3)
    (complete_then _ (stores_complete limited bytes m e.1.1.0 g above6)
    (complete_then _ (middle_complete limited bytes m c.0 e above9)
    (complete_then _ (funcs_complete limited bytes m s.from_segments c above10)
    (complete_then _ (last_complete limited bytes m s) (complete_ok refl) (λ w. w)) (λ w. w)) (λ w. w)) (λ w. w))
    (λ w l. let few = (w l).functions in
    (recursion_from_All TypeWithin m.types (w l).types, omega (arith, length_indices m.funcs)))

pub read_complete :
    (limited : Bool) (bytes : List ℕ) (m : Module) → Spells bytes m
    → Complete (limited ≡ true → Within m × (length bytes ≤ max_module_bytes)) m (read_module limited bytes)
unfolding read_module
read_complete limited bytes m s =
    let t = s.before.1.1.1.1.1.1.1.1.1 in
    complete_within (λ w. unlimited limited max_module_bytes (length bytes) (λ l. (w l).1))
    (complete_then _ (preamble_complete bytes t.1.0 t.1.1)
    (complete_weaker (sections_complete limited bytes m s) (λ w l. (w l).0)) always)
