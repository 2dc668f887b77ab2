-- The readers of sections and modules are sound, limits included.
use Rattle.std.proofs.Common.{◌≡◌, ℕ, zero, suc, ◌+◌, ◌<◌, ◌≤◌, true, false, ltb, eqb, List, [], ◌∷◌, ◌++◌, length, map, take, drop, Some, None, refl, sym, ap, subst, ◌∙◌, arith, inl, inr}
use Rattle.std.specs.Prelude.{slice_get}
use Rattle.std.specs.Str.{bytes_eq}
use Rattle.std.specs.List.{AllByRecursion}
use Rattle.std.proofs.lemmas.Bool.{ltb-true, ltb-false, eqb-true}
use Rattle.std.proofs.lemmas.List.{take-append-drop, nil_from_length}
use Rattle.std.proofs.lemmas.List.Elements.{All-from_recursion}
use Rattle.std.proofs.lemmas.Slice.Eq.{bytes_eq-Decides}
use Rattle.wasm_ast.specs.declared.values.FuncType.{FuncType}
use Rattle.wasm_ast.specs.declared.module.Global.{Global}
use Rattle.wasm_ast.specs.declared.module.Element.{Element}
use Rattle.wasm_ast.specs.declared.module.Segment.{Segment}
use Rattle.wasm_ast.specs.declared.module.Func.{Func}
use Rattle.wasm_ast.specs.declared.module.Module.{Module}
use Rattle.wasm_ast.specs.Syntax.{stop}
use Rattle.wasm_ast.specs.Limits.{max_module_bytes, max_functions, max_table_entries, max_memory_pages, FuncWithin, Within}
use Rattle.wasm_ast.proofs.LimitLemmas.{TypeWithin, MinWithin, NestsWithin}
use Rattle.wasm_binary.specs.Numbers.{IsU32}
use Rattle.wasm_binary.specs.Opcodes.{custom_section, type_section, import_section, function_section, table_section, memory_section, global_section, export_section, start_section, element_section, code_section, data_section, preamble}
use Rattle.wasm_binary.specs.Grammar.{Form, IsVector, IsEntry, IsFuncType, IsImport, IsTable, IsMemory, IsGlobal, IsExport, IsStart, IsElement, IsSegment, IsNamed, IsCustom, AreCustom, IsPart, IsSection, indices_of, UpToTypes, UpToImports, UpToFunctions, UpToTables, UpToMemories, UpToGlobals, UpToStart, UpToElements, UpToCodes, Spells}
use Rattle.wasm_binary.specs.Limits.{WithinSize, InSection, InVector, NumberOver, ResultsOver, LocalsOver, BlocksOver, TableOver, MemoryOver, GlobalOver, OffsetOver, EntryOver, too_many_bytes, too_many_results, too_many_imports, too_many_functions, table_too_large, memory_too_large, global_too_deep, element_too_deep, too_many_locals, code_too_deep, segment_too_deep}
use Rattle.wasm_binary.specs.Limits as limits
use Rattle.wasm_binary.specs.Inside.Reading.{Read, read_u32, begins_with, read_vector, read_custom_name, skip_custom, skip_some_customs, skip_customs, read_part, read_section, read_bounded, read_codes, read_func_type, read_import, read_size, read_global, read_export, read_start, read_element, read_segment, strip_preamble, Head, read_head, Stored, read_stores, Between, read_middle, read_funcs, read_last, module_of, read_sections, read_module}
use Rattle.wasm_binary.proofs.ReadSound.{Sound, sound_ok, sound_then, sound_more, sound_need, sound_if, sound_over, never, begins_is, u32_sound, sized_sound, vector_known, vector_sound, bounded_sound, name_sound, func_type_sound}
use Rattle.wasm_binary.proofs.ItemSound.{length_indices, CodesKnown, CodesOver, codes_sound, import_sound, table_sound, memory_sound, global_sound, export_sound, start_sound, element_sound, segment_sound}

-- ---- sections

named_sound : (bytes : List ℕ) → Sound (λ x. (more : List ℕ) × IsNamed bytes (x.0, more) x.1) ⊥ (read_custom_name bytes)
unfolding read_custom_name
named_sound bytes = sound_then (name_sound bytes) (λ n hn. sound_ok (n.0, []) (n.1, (hn, refl))) never

custom_sound :
    (bytes : List ℕ) → begins_with custom_section bytes ≡ true
    → Sound (λ rest. (x : List ℕ × List ℕ) × IsCustom bytes x rest) ⊥ (skip_custom (drop 1 bytes))
unfolding skip_custom
custom_sound bytes e =
    sound_then
    (sized_sound (λ part name rest. (more : List ℕ) × IsNamed part (name, more) rest) (λ _. ⊥) read_custom_name
    named_sound (drop 1 bytes))
    (λ x h. sound_ok x.1 ((x.0, h.4.0), (drop 1 bytes, begins_is custom_section bytes e, (h.0, h.1, h.2, h.3, h.4.1))))
    (λ q. q.3)

customs_sound : (most : ℕ) (bytes : List ℕ) → Sound (λ rest. AreCustom bytes rest) ⊥ (skip_some_customs most bytes)
unfolding skip_some_customs
customs_sound zero bytes = sound_ok bytes ([], refl)
customs_sound (suc n) bytes = sound_if (begins_with custom_section bytes)
    (λ e. sound_then (custom_sound bytes e)
    (λ after h. sound_more (customs_sound n after) (λ rest k. (h.0 ∷ k.0, (after, h.1, k.1))) never) never)
    (λ _. sound_ok bytes ([], refl))

all_customs_sound : (bytes : List ℕ) → Sound (λ rest. AreCustom bytes rest) ⊥ (skip_customs bytes)
unfolding skip_customs
all_customs_sound bytes = customs_sound (length bytes) bytes

part_sound :
    {X : Type 0} (id : ℕ) (IsXs : Form X) (Q : List ℕ → Type 0) (read : List ℕ → Read X) (empty : X)
    → ((part : List ℕ) → Sound (λ x. IsXs part x.0 x.1) (Q part) (read part))
    → (bytes : List ℕ)
    → Sound (λ x. IsPart id IsXs empty bytes x.0 x.1) (InSection id Q bytes) (read_part id read empty bytes)
unfolding read_part
part_sound id IsXs Q read empty each bytes = sound_if (begins_with id bytes)
    (λ e. sound_then (sized_sound IsXs Q read each (drop 1 bytes))
    (λ x hx. sound_then (all_customs_sound x.1) (λ rest hr.
    sound_ok (x.0, rest) (inl (drop 1 bytes, x.1, begins_is id bytes e, hx, hr))) never)
    (λ q. (drop 1 bytes, begins_is id bytes e, q)))
    (λ _. sound_ok (empty, bytes) (inr (refl, refl)))

-- a fact beside the form of a section's contents
section_with :
    {X : Type 0} (id : ℕ) (IsXs : Form (List X)) (E : List X → Type 0) (bytes : List ℕ) (xs : List X) (rest : List ℕ)
    → IsPart id (λ b ys r. IsXs b ys r × E ys) [] bytes xs rest → E [] → IsPart id IsXs [] bytes xs rest × E xs
section_with id IsXs E bytes xs rest (inl h) none =
    (inl (h.0, h.1, h.2, (h.3.0, h.3.1, h.3.2, h.3.3, h.3.4.0), h.4), h.3.4.1)
section_with id IsXs E bytes xs rest (inr h) none = (inr h, subst E (sym h.0) none)

-- a section that is a vector of items of which E is known
vector_section_sound :
    {X : Type 0} (id : ℕ) (IsX : Form X) (E : X → Type 0) (Q : List ℕ → Type 0) (read : List ℕ → Read X)
    → ((part : List ℕ) → Sound (λ x. IsX part x.0 x.1 × E x.0) (Q part) (read part))
    → (bytes : List ℕ)
    → Sound (λ x. IsSection id IsX bytes x.0 x.1 × AllByRecursion E x.0) (InSection id (InVector IsX (λ _ _. Q)) bytes)
    (read_section id (read_vector read) bytes)
vector_section_sound id IsX E Q read each bytes =
    sound_more
    (part_sound id (λ b ys r. IsVector IsX b ys r × AllByRecursion E ys) (InVector IsX (λ _ _. Q))
    (read_vector read) [] (vector_known IsX E Q read each) bytes)
    (λ x h. section_with id (IsVector IsX) (AllByRecursion E) bytes x.0 x.1 h tt) (λ q. q)

plain_section_sound :
    {X : Type 0} (id : ℕ) (IsX : Form X) (read : List ℕ → Read X)
    → ((part : List ℕ) → Sound (λ x. IsX part x.0 x.1) ⊥ (read part))
    → (bytes : List ℕ) → Sound (λ x. IsSection id IsX bytes x.0 x.1) ⊥ (read_section id (read_vector read) bytes)
plain_section_sound id IsX read each bytes =
    sound_more (part_sound id (IsVector IsX) (λ _. ⊥) (read_vector read) [] (vector_sound IsX read each) bytes)
    (λ x h. h) (λ q. absurd q.2.3)

functions_section_sound :
    {X : Type 0} (id before : ℕ) (IsX : Form X) (read : List ℕ → Read X)
    → ((part : List ℕ) → Sound (λ x. IsX part x.0 x.1) ⊥ (read part)) → before ≤ max_functions
    → (bytes : List ℕ)
    → Sound (λ x. IsSection id IsX bytes x.0 x.1 × (before + length x.0 ≤ max_functions))
    (InSection id (NumberOver max_functions before) bytes)
    (read_section id (read_bounded true max_functions before read) bytes)
functions_section_sound id before IsX read each few bytes =
    sound_more
    (part_sound id (λ b ys r. IsVector IsX b ys r × (before + length ys ≤ max_functions))
    (NumberOver max_functions before) (read_bounded true max_functions before read) []
    (bounded_sound max_functions before IsX read each) bytes)
    (λ x h. section_with id (IsVector IsX) (λ ys. before + length ys ≤ max_functions) bytes x.0 x.1 h (omega arith))
    (λ q. q)

-- ---- modules

pub preamble_sound : (bytes : List ℕ) → Sound (λ rest. bytes ≡ preamble ++ rest) ⊥ (strip_preamble bytes)
unfolding strip_preamble
preamble_sound bytes = sound_need (bytes_eq (take 8 bytes) preamble) (λ e.
    let k : take 8 bytes ≡ preamble = (bytes_eq-Decides (take 8 bytes) preamble).0 e in
    sound_ok (drop 8 bytes) (sym (take-append-drop 8 bytes) ∙ ap (λ (front : List ℕ). front ++ drop 8 bytes) k))

-- functions with these type indices
abbrev without_body : ℕ → Func
without_body index = record { type_index = index; locals = []; body = stop }

without_body_indices : (indices : List ℕ) → indices_of (map without_body indices) ≡ indices
without_body_indices [] = refl
without_body_indices (i ∷ is) = ap (λ (js : List ℕ). i ∷ js) (without_body_indices is)

-- a module that has these types, imports and type indices
abbrev HasHead : Head → Module → Type 0
HasHead h m = (m.types ≡ h.types) × (m.imports ≡ h.imports) × (indices_of m.funcs ≡ h.indices)

abbrev HasStores : Stored → Module → Type 0
HasStores s m = (m.tables ≡ s.tables) × (m.memories ≡ s.memories) × (m.globals ≡ s.globals)

abbrev HasMiddle : Between → Module → Type 0
HasMiddle b m = (m.exports ≡ b.exports) × (m.start ≡ b.start) × (m.elements ≡ b.elements)

-- what is known after each group of sections, of whatever module has the values that were read
abbrev HeadRead : List ℕ → Head × List ℕ → Type 0
HeadRead bytes x =
    ((m : Module) → HasHead x.0 m → UpToFunctions bytes m x.1) × AllByRecursion TypeWithin x.0.types
    × (length x.0.imports + length x.0.indices ≤ max_functions)

abbrev StoresKnown : Stored → Type 0
StoresKnown s =
    AllByRecursion (MinWithin max_table_entries) s.tables × AllByRecursion (MinWithin max_memory_pages) s.memories
    × AllByRecursion (λ g. NestsWithin g.init) s.globals

abbrev StoresRead : List ℕ → Head → Stored × List ℕ → Type 0
StoresRead bytes h x = ((m : Module) → HasHead h m → HasStores x.0 m → UpToGlobals bytes m x.1) × StoresKnown x.0

abbrev MiddleRead : List ℕ → Head → Stored → Between × List ℕ → Type 0
MiddleRead bytes h s x =
    ((m : Module) → HasHead h m → HasStores s m → HasMiddle x.0 m → UpToElements bytes m x.1)
    × AllByRecursion (λ e. NestsWithin e.offset) x.0.elements

abbrev empty_head : Head
empty_head = record { types = []; imports = []; indices = [] }

abbrev no_stores : Stored
no_stores = record { tables = []; memories = []; globals = [] }

abbrev nothing_between : Between
nothing_between = record { exports = []; start = None; elements = [] }

-- some module that has these values
abbrev module_with : Head → Stored → Between → Module
module_with h s b = module_of h s b (map without_body h.indices) []

with_head : (h : Head) (s : Stored) (b : Between) → HasHead h (module_with h s b)
with_head h s b = (refl, refl, without_body_indices h.indices)

head_sound :
    (bytes sections : List ℕ) → bytes ≡ preamble ++ sections
    → Sound (HeadRead bytes) (limits.Over bytes) (read_head true sections)
unfolding read_head
head_sound bytes sections h0 = sound_then (all_customs_sound sections) (λ from_types h1.
    sound_then
    (vector_section_sound type_section IsFuncType TypeWithin ResultsOver (read_func_type true) func_type_sound
    from_types) (λ types h2.
    let up1 :
    (m : Module) → m.types ≡ types.0 → UpToTypes bytes m types.1 =
    λ m e. (
      from_types,
      (sections, h0, h1),
      subst (λ xs. IsSection type_section IsFuncType from_types xs types.1) (sym e) h2.0,
    ) in
    sound_then
    (functions_section_sound import_section 0 IsImport read_import import_sound (omega arith) types.1)
    (λ imports h3.
    let up2 :
    (m : Module) → m.types ≡ types.0 → m.imports ≡ imports.0 → UpToImports bytes m imports.1 =
    λ m e f.
    (types.1, up1 m e, subst (λ xs. IsSection import_section IsImport types.1 xs imports.1) (sym f) h3.0) in
    sound_then
    (functions_section_sound function_section (length imports.0) IsU32 read_u32 u32_sound (omega (arith, h3.1))
    imports.1) (λ indices h4.
    sound_ok (record { types = types.0; imports = imports.0; indices = indices.0 }, indices.1) (
      (λ m e. (
        imports.1,
        up2 m e.0 e.1,
        subst (λ xs. IsSection function_section IsU32 imports.1 xs indices.1) (sym e.2) h4.0,
      )),
      h2.1,
      h4.1,
    ))
    (λ q. let m : Module = module_with (record { types = types.0; imports = imports.0; indices = [] }) no_stores
    nothing_between in too_many_functions m imports.1 (up2 m refl refl) q))
    (λ q. let m : Module = module_with (record { types = types.0; imports = []; indices = [] }) no_stores
    nothing_between in too_many_imports m types.1 (up1 m refl) q))
    (λ q. too_many_results (module_with empty_head no_stores nothing_between) from_types (sections, h0, h1) q)) never

stores_sound :
    (bytes : List ℕ) (h : Head × List ℕ) → HeadRead bytes h
    → Sound (StoresRead bytes h.0) (limits.Over bytes) (read_stores true h.1)
unfolding read_stores
stores_sound bytes h hh =
    sound_then
    (vector_section_sound table_section IsTable (MinWithin max_table_entries) TableOver (read_size true true)
    table_sound h.1) (λ tables h4.
    let up4 :
    (m : Module) → HasHead h.0 m → m.tables ≡ tables.0 → UpToTables bytes m tables.1 =
    λ m e f.
    (h.1, hh.0 m e, subst (λ xs. IsSection table_section IsTable h.1 xs tables.1) (sym f) h4.0) in
    sound_then
    (vector_section_sound memory_section IsMemory (MinWithin max_memory_pages) MemoryOver (read_size false true)
    memory_sound tables.1) (λ memories h5.
    let up5 :
    (m : Module) → HasHead h.0 m → m.tables ≡ tables.0 → m.memories ≡ memories.0 → UpToMemories bytes m memories.1 =
    λ m e f g.
    (tables.1, up4 m e f, subst (λ xs. IsSection memory_section IsMemory tables.1 xs memories.1) (sym g) h5.0) in
    sound_then
    (vector_section_sound global_section IsGlobal (λ g. NestsWithin g.init) GlobalOver (read_global true)
    global_sound memories.1) (λ globals h6.
    sound_ok (record { tables = tables.0; memories = memories.0; globals = globals.0 }, globals.1) (
      (λ m e f. (
        memories.1,
        up5 m e f.0 f.1,
        subst (λ xs. IsSection global_section IsGlobal memories.1 xs globals.1) (sym f.2) h6.0,
      )),
      (h4.1, h5.1, h6.1),
    ))
    (λ q. let s : Stored = record { tables = tables.0; memories = memories.0; globals = [] }
    in global_too_deep (module_with h.0 s nothing_between) memories.1
    (up5 (module_with h.0 s nothing_between) (with_head h.0 s nothing_between) refl refl) q))
    (λ q. let s : Stored = record { tables = tables.0; memories = []; globals = [] }
    in memory_too_large (module_with h.0 s nothing_between) tables.1
    (up4 (module_with h.0 s nothing_between) (with_head h.0 s nothing_between) refl) q))
    (λ q. table_too_large (module_with h.0 no_stores nothing_between) h.1
    (hh.0 (module_with h.0 no_stores nothing_between) (with_head h.0 no_stores nothing_between)) q)

middle_sound :
    (bytes : List ℕ) (h : Head) (s : Stored × List ℕ) → StoresRead bytes h s
    → Sound (MiddleRead bytes h s.0) (limits.Over bytes) (read_middle true s.1)
unfolding read_middle
middle_sound bytes h s hs =
    sound_then (plain_section_sound export_section IsExport read_export export_sound s.1) (λ exports h7.
    sound_then (part_sound start_section IsStart (λ _. ⊥) read_start None start_sound exports.1) (λ start h8.
    let up8 :
    (m : Module) → HasHead h m → HasStores s.0 m → m.exports ≡ exports.0 → m.start ≡ start.0
    → UpToStart bytes m start.1 = λ m a b e f. (
      exports.1,
      (s.1, hs.0 m a b, subst (λ xs. IsSection export_section IsExport s.1 xs exports.1) (sym e) h7),
      subst (λ x. IsPart start_section IsStart None exports.1 x start.1) (sym f) h8,
    ) in
    sound_then
    (vector_section_sound element_section IsElement (λ e. NestsWithin e.offset) OffsetOver (read_element true)
    element_sound start.1) (λ elements h9.
    sound_ok (record { exports = exports.0; start = start.0; elements = elements.0 }, elements.1) (
      (λ m a b e. (
        start.1,
        up8 m a b e.0 e.1,
        subst (λ xs. IsSection element_section IsElement start.1 xs elements.1) (sym e.2) h9.0,
      )),
      h9.1,
    ))
    (λ q. let b : Between = record { exports = exports.0; start = start.0; elements = [] }
    in element_too_deep (module_with h s.0 b) start.1
    (up8 (module_with h s.0 b) (with_head h s.0 b) (refl, refl, refl) refl refl) q))
    (λ q. absurd q.2.3)) never

bounded : (is : List ℕ) (k i : ℕ) → slice_get is k ≡ Some i → k < length is
bounded [] k i e = absurd cc
bounded (j ∷ is) zero i e = omega arith
bounded (j ∷ is) (suc k) i e = omega (arith, bounded is k i e)

codes_over :
    (bytes : List ℕ) (h : Head) (s : Stored) (b : Between × List ℕ) → MiddleRead bytes h s b
    → InSection code_section (CodesOver h.types h.indices) b.1 → limits.Over bytes
codes_over bytes h s b r q =
    let m : Module = module_with h s b.0 in
    let same : indices_of m.funcs ≡ h.indices = without_body_indices h.indices in
    let count : length h.indices ≡ length m.funcs = sym (ap length same) ∙ length_indices m.funcs in
    let w = q.2.3 in
    let some = w.2 in
    let at :
    slice_get (indices_of m.funcs) (length some.0) ≡ Some some.2 =
    subst (λ is. slice_get is (length some.0) ≡ Some some.2) (sym same) some.4 in
    let fewer : length some.0 < length h.indices = bounded h.indices (length some.0) some.2 some.4 in
    let up : UpToElements bytes m b.1 = r.0 m (with_head h s b.0) (refl, refl, refl) (refl, refl, refl) in
    elim some.5.3 [
      | inl e ↦
          let entry :
          EntryOver LocalsOver m (length h.indices) some.0 some.1 =
          (some.2, count, at, (some.5.0, some.5.1, some.5.2, e)) in
          too_many_locals m b.1 up
          (q.0, q.1, (q.2.0, q.2.1, q.2.2, (length h.indices, w.0, some.0, some.1, w.1, some.3, fewer, entry)))
      | inr e ↦
          let entry :
          EntryOver BlocksOver m (length h.indices) some.0 some.1 =
          (some.2, count, at, (some.5.0, some.5.1, some.5.2, e)) in
          code_too_deep m b.1 up
          (q.0, q.1, (q.2.0, q.2.1, q.2.2, (length h.indices, w.0, some.0, some.1, w.1, some.3, fewer, entry)))
    ]

-- the code section is of the functions, or there are none
codes_with : (types : List FuncType) (indices : List ℕ) (bytes : List ℕ) (fs : List Func) (rest : List ℕ)
    → IsPart code_section (λ b ys r. IsVector IsEntry b ys r × CodesKnown types indices ys) [] bytes fs rest
    → length fs ≡ length indices
    → IsSection code_section IsEntry bytes fs rest × CodesKnown types indices fs
codes_with types indices bytes fs rest (inl h) same =
    (inl (h.0, h.1, h.2, (h.3.0, h.3.1, h.3.2, h.3.3, h.3.4.0), h.4), h.3.4.1)
codes_with types indices bytes fs rest (inr h) same =
    let none : length fs ≡ 0 = ap length h.0 in
    let no_indices : indices ≡ [] = nil_from_length indices (omega arith) in
    (inr h, (ap indices_of h.0 ∙ sym no_indices, subst (AllByRecursion (FuncWithin types)) (sym h.0) tt))

-- the functions, of whatever module has them
abbrev FuncsRead : List ℕ → Head → Stored → Between → List Func × List ℕ → Type 0
FuncsRead bytes h s b x =
    ((m : Module) → HasHead h m → HasStores s m → HasMiddle b m → m.funcs ≡ x.0 → UpToCodes bytes m x.1)
    × CodesKnown h.types h.indices x.0

funcs_sound :
    (bytes : List ℕ) (h : Head) (s : Stored) (b : Between × List ℕ) → MiddleRead bytes h s b
    → Sound (FuncsRead bytes h s b.0) (limits.Over bytes) (read_funcs true h.types h.indices b.1)
unfolding read_funcs
funcs_sound bytes h s b hb =
    sound_then
    (part_sound code_section (λ c ys r. IsVector IsEntry c ys r × CodesKnown h.types h.indices ys)
    (CodesOver h.types h.indices) (read_codes true h.types h.indices) [] (codes_sound h.types h.indices) b.1)
    (λ funcs h10.
    sound_need (eqb (length funcs.0) (length h.indices)) (λ k.
    let codes = codes_with h.types h.indices b.1 funcs.0 funcs.1 h10 (eqb-true (length funcs.0) (length h.indices) k) in
    sound_ok funcs (
      (λ m e f g is.
          (b.1, hb.0 m e f g, subst (λ xs. IsSection code_section IsEntry b.1 xs funcs.1) (sym is) codes.0)),
      codes.1,
    )))
    (codes_over bytes h s b hb)

abbrev LastRead : List ℕ → List Segment → Type 0
LastRead bytes segments =
    IsSection data_section IsSegment bytes segments [] × AllByRecursion (λ s. NestsWithin s.offset) segments

last_sound :
    (bytes : List ℕ)
    → Sound (LastRead bytes) (InSection data_section (InVector IsSegment (λ _ _. OffsetOver)) bytes)
    (read_last true bytes)
unfolding read_last
last_sound bytes =
    sound_then
    (vector_section_sound data_section IsSegment (λ s. NestsWithin s.offset) OffsetOver (read_segment true)
    segment_sound bytes) (λ segments h.
    sound_need (eqb (length segments.1) 0) (λ e.
    sound_ok segments.0 (
      subst (λ r. IsSection data_section IsSegment bytes segments.0 r)
          (nil_from_length segments.1 (eqb-true (length segments.1) 0 e)) h.0,
      h.1,
    ))) (λ q. q)

within :
    (h : Head) (s : Stored) (b : Between) (funcs : List Func) (segments : List Segment)
    → AllByRecursion TypeWithin h.types → length h.imports + length h.indices ≤ max_functions → StoresKnown s
    → AllByRecursion (λ e. NestsWithin e.offset) b.elements → CodesKnown h.types h.indices funcs
    → AllByRecursion (λ d. NestsWithin d.offset) segments → Within (module_of h s b funcs segments)
within h s b funcs segments types few stores elements codes last =
    let same : length h.indices ≡ length funcs = sym (ap length codes.0) ∙ length_indices funcs in
    record {
      types = All-from_recursion TypeWithin h.types types;
      functions = omega arith;
      funcs = All-from_recursion (FuncWithin h.types) funcs codes.1;
      tables = All-from_recursion (MinWithin max_table_entries) s.tables stores.0;
      memories = All-from_recursion (MinWithin max_memory_pages) s.memories stores.1;
      globals = All-from_recursion (λ (g : Global). NestsWithin g.init) s.globals stores.2;
      elements = All-from_recursion (λ (e : Element). NestsWithin e.offset) b.elements elements;
      segments = All-from_recursion (λ (d : Segment). NestsWithin d.offset) segments last;
    }

sections_sound :
    (bytes sections : List ℕ) → bytes ≡ preamble ++ sections
    → Sound (λ m. Spells bytes m × Within m) (limits.Over bytes) (read_sections true sections)
unfolding read_sections
sections_sound bytes sections h0 = sound_then (head_sound bytes sections h0) (λ h hh.
    sound_then (stores_sound bytes h hh) (λ s hs.
    sound_then (middle_sound bytes h.0 s hs) (λ b hb.
    sound_then (funcs_sound bytes h.0 s.0 b hb) (λ funcs hf.
    sound_then (last_sound funcs.1) (λ segments hl.
    let m : Module = module_of h.0 s.0 b.0 funcs.0 segments in
    sound_ok m (
      record {
        from_segments = funcs.1;
        before = hf.0 m (refl, refl, hf.1.0) (refl, refl, refl) (refl, refl, refl) refl;
        segments = hl.0;
      },
      within h.0 s.0 b.0 funcs.0 segments hh.1 hh.2 hs.1 hb.1 hf.1 hl.1,
    ))
    (λ q. let m : Module = module_of h.0 s.0 b.0 funcs.0 []
    in segment_too_deep m funcs.1 (hf.0 m (refl, refl, hf.1.0) (refl, refl, refl) (refl, refl, refl) refl) q))
    (λ q. q)) (λ q. q)) (λ q. q)) (λ q. q)

pub read_sound :
    (bytes : List ℕ)
    → Sound (λ m. Spells bytes m × Within m × (length bytes ≤ max_module_bytes)) (limits.Over bytes)
    (read_module true bytes)
unfolding read_module
read_sound bytes = sound_if (ltb max_module_bytes (length bytes))
    (λ over. sound_over (too_many_bytes (ltb-true max_module_bytes (length bytes) over)))
    (λ under. sound_then (preamble_sound bytes) (λ sections h0.
    sound_more (sections_sound bytes sections h0) (λ m h. (h.0, h.1, ltb-false max_module_bytes (length bytes) under))
    (λ q. q)) never)
