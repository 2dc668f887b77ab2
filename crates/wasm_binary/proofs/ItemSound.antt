-- The readers of code and of the items of other sections are sound, limits included.
use Rattle.std.proofs.Common.{◌≡◌, ◌⊎◌, ℕ, zero, suc, ◌+◌, ◌<◌, ◌≤◌, true, ltb, eqb, List, [], ◌∷◌, ◌++◌, length, replicate, Some, refl, sym, ap, ◌∙◌, arith, inl, inr}
use Rattle.std.specs.Prelude.{slice_get}
use Rattle.std.specs.List.{AllByRecursion}
use Rattle.std.proofs.lemmas.Bool.{ltb-true, ltb-false, eqb-true}
use Rattle.std.proofs.lemmas.List.{length-append, length-replicate}
use Rattle.wasm_ast.specs.declared.values.ValType.{ValType}
use Rattle.wasm_ast.specs.declared.values.FuncType.{FuncType}
use Rattle.wasm_ast.specs.declared.module.Mutability.TheVariants as mutability
use Rattle.wasm_ast.specs.declared.module.ExportKind.TheVariants as kinds
use Rattle.wasm_ast.specs.declared.module.Func.{Func}
use Rattle.wasm_ast.specs.Syntax.{Ops}
use Rattle.wasm_ast.specs.Limits.{max_locals, max_table_entries, max_memory_pages, params_of, FuncWithin}
use Rattle.wasm_ast.proofs.LimitLemmas.{MinWithin, NestsWithin}
use Rattle.wasm_binary.specs.Numbers.{IsU32}
use Rattle.wasm_binary.specs.Opcodes.{table_type_byte, mutability_byte, kind_byte}
use Rattle.wasm_binary.specs.Grammar.{Form, AreItems, IsVector, IsRun, locals_of, AreLocals, IsExpression, IsCode, IsEntry, IsImport, IsTable, IsMemory, IsGlobal, IsExport, IsStart, IsElement, IsSegment, indices_of}
use Rattle.wasm_binary.specs.Limits.{WithinSize, LocalsOver, BlocksOver, TableOver, MemoryOver, GlobalOver, OffsetOver}
use Rattle.wasm_binary.specs.Inside.Reading.{read_u32, read_runs, read_locals, read_code, read_entries, read_codes, read_import, read_table, read_memory, mutability_of, read_mutability, read_global, kind_of, read_kind, read_export, read_start, read_place, read_element, read_segment}
use Rattle.wasm_binary.proofs.ReadSound.{Sound, sound_ok, sound_then, sound_more, sound_need, sound_if, sound_over, never, skip_sound, byte_sound, u32_sound, type_sound, limits_sound, sized_sound, vector_sound, byte_vector_sound, name_sound}
use Rattle.wasm_binary.proofs.InstrSound.{expression_sound}

-- ---- locals

-- some runs are whole, and the count of the next one makes too many locals
abbrev RunsOver : (before count : ℕ) → List ℕ → Type 0
RunsOver before count bytes =
    (runs : List (ℕ × ValType)) × (mid : List ℕ) × (n : ℕ) × (rest : List ℕ) × AreItems IsRun bytes runs mid
    × (length runs < count) × IsU32 mid n rest
    × (max_locals < before + length (locals_of runs) + n)

abbrev RunsRead : (before count : ℕ) → List ℕ → List ValType × List ℕ → Type 0
RunsRead before count bytes x =
    (runs : List (ℕ × ValType)) × AreItems IsRun bytes runs x.1 × (length runs ≡ count) × (x.0 ≡ locals_of runs)
    × (before + length x.0 ≤ max_locals)

runs_sound :
    (before count : ℕ) (bytes : List ℕ) → before ≤ max_locals
    → Sound (RunsRead before count bytes) (RunsOver before count bytes) (read_runs true before count bytes)
unfolding read_runs
runs_sound before zero bytes few = sound_ok ([], bytes) ([], refl, refl, refl, omega arith)
runs_sound before (suc k) bytes few = sound_then (u32_sound bytes) (λ n hn. sound_if (ltb max_locals (before + n.0))
    (λ over. sound_over
    ([], bytes, n.0, n.1, refl, omega arith, hn, omega (arith, ltb-true max_locals (before + n.0) over)))
    (λ under. sound_then (type_sound n.1)
    (λ t ht. sound_then (runs_sound (before + n.0) k t.1 (ltb-false max_locals (before + n.0) under))
    (λ others h. sound_ok (replicate n.0 t.0 ++ others.0, others.1) (
      (n.0, t.0) ∷ h.0,
      (t.1, (n.1, hn, ht), h.1),
      ap suc h.2,
      ap (λ (ts : List ValType). replicate n.0 t.0 ++ ts) h.3,
      omega (arith, h.4, length-append (replicate n.0 t.0) others.0, length-replicate n.0 t.0),
    ))
    (λ q. (
      (n.0, t.0) ∷ q.0,
      q.1,
      q.2,
      q.3,
      (t.1, (n.1, hn, ht), q.4),
      omega (arith, q.5),
      q.6,
      omega (arith, q.7, length-append (replicate n.0 t.0) (locals_of q.0), length-replicate n.0 t.0),
    )))
    never)) never

locals_sound :
    (params : ℕ) (bytes : List ℕ)
    → Sound (λ x. AreLocals bytes x.0 x.1 × (params + length x.0 ≤ max_locals)) (LocalsOver params bytes)
    (read_locals true params bytes)
unfolding read_locals
locals_sound params bytes = sound_if (ltb max_locals params)
    (λ over. sound_over (inl (ltb-true max_locals params over)))
    (λ under. sound_then (u32_sound bytes)
    (λ n hn. sound_more (runs_sound params n.0 n.1 (ltb-false max_locals params under))
    (λ x h. ((h.0, (n.1, rw h.2 hn, h.1), h.3, omega (arith, h.4)), h.4))
    (λ q. inr (n.0, n.1, q.0, q.1, hn, q.4, q.5, (q.2, q.3, q.6, q.7)))) never)

-- ---- code

-- a function's code, its type index and its limits
abbrev CodeRead : (types : List FuncType) → (index : ℕ) → Form Func
CodeRead types index bytes f rest = IsCode bytes f rest × (f.type_index ≡ index) × FuncWithin types f

-- too many locals, or too many open blocks
abbrev pub CodeOver : (params : ℕ) → List ℕ → Type 0
CodeOver params bytes = LocalsOver params bytes ⊎ BlocksOver params bytes

code_sound :
    (types : List FuncType) (index : ℕ) (bytes : List ℕ)
    → Sound (λ x. CodeRead types index bytes x.0 x.1) (CodeOver (params_of types index) bytes)
    (read_code true (params_of types index) index bytes)
unfolding read_code
code_sound types index bytes =
    sound_then (locals_sound (params_of types index) bytes) (λ ls hls. sound_then (expression_sound ls.1) (λ os hos.
    sound_ok (record { type_index = index; locals = ls.0; body = os.0 }, os.1)
    ((ls.1, hls.0, hos.0), refl, record { locals = hls.1; nesting = hos.1 })) (λ q. inr (ls.0, ls.1, hls.0, q)))
    (λ q. inl q)

abbrev EntriesRead : (types : List FuncType) → (indices : List ℕ) → Form (List Func)
EntriesRead types indices bytes fs rest =
    AreItems IsEntry bytes fs rest × (indices_of fs ≡ indices) × AllByRecursion (FuncWithin types) fs

abbrev pub EntriesOver : (types : List FuncType) → (indices : List ℕ) → List ℕ → Type 0
EntriesOver types indices bytes =
    (funcs : List Func) × (mid : List ℕ) × (index : ℕ) × AreItems IsEntry bytes funcs mid
    × (slice_get indices (length funcs) ≡ Some index)
    × WithinSize (CodeOver (params_of types index)) mid

entries_sound :
    (types : List FuncType) (indices : List ℕ) (bytes : List ℕ)
    → Sound (λ x. EntriesRead types indices bytes x.0 x.1) (EntriesOver types indices bytes)
    (read_entries true types indices bytes)
unfolding read_entries
entries_sound types [] bytes = sound_ok ([], bytes) (refl, refl, tt)
entries_sound types (index ∷ indices) bytes =
    sound_then
    (sized_sound (CodeRead types index) (CodeOver (params_of types index))
    (read_code true (params_of types index) index) (code_sound types index) bytes)
    (λ f hf. sound_then (entries_sound types indices f.1)
    (λ fs hfs. sound_ok (f.0 ∷ fs.0, fs.1)
    ((f.1, (hf.0, hf.1, hf.2, hf.3, hf.4.0), hfs.0), (λ i. hf.4.1 i ∷ hfs.1 i), (hf.4.2, hfs.2)))
    (λ q. (f.0 ∷ q.0, q.1, q.2, (f.1, (hf.0, hf.1, hf.2, hf.3, hf.4.0), q.3), q.4, q.5)))
    (λ q. ([], bytes, index, refl, refl, q))

pub length_indices : (fs : List Func) → length (indices_of fs) ≡ length fs
length_indices [] = refl
length_indices (f ∷ fs) = ap suc (length_indices fs)

-- beside the form of a vector of entries
abbrev pub CodesKnown : (types : List FuncType) → (indices : List ℕ) → List Func → Type 0
CodesKnown types indices fs = (indices_of fs ≡ indices) × AllByRecursion (FuncWithin types) fs

-- in a vector with an entry for each type index
abbrev pub CodesOver : (types : List FuncType) → (indices : List ℕ) → List ℕ → Type 0
CodesOver types indices bytes = (from : List ℕ) × IsU32 bytes (length indices) from × EntriesOver types indices from

pub codes_sound : (types : List FuncType) (indices : List ℕ) (bytes : List ℕ)
    → Sound (λ x. IsVector IsEntry bytes x.0 x.1 × CodesKnown types indices x.0) (CodesOver types indices bytes)
    (read_codes true types indices bytes)
unfolding read_codes
codes_sound types indices bytes = sound_then (u32_sound bytes) (λ n hn. sound_need (eqb n.0 (length indices)) (λ e.
    sound_more (entries_sound types indices n.1)
    (λ x h. let k : n.0 ≡ length x.0 = eqb-true n.0 (length indices) e ∙ ap length (sym h.1) ∙ length_indices x.0
    in ((n.1, rw (← k) hn, h.0), (h.1, h.2)))
    (λ q. (n.1, rw (← eqb-true n.0 (length indices) e) hn, q)))) never

-- ---- the items of the other sections

pub import_sound : (bytes : List ℕ) → Sound (λ x. IsImport bytes x.0 x.1) ⊥ (read_import bytes)
unfolding read_import
import_sound bytes =
    sound_then (name_sound bytes)
    (λ m hm. sound_then (name_sound m.1) (λ n hn. sound_then (skip_sound (kind_byte kinds.Func) n.1) (λ from hf.
    sound_then (u32_sound from) (λ t ht. sound_ok (record { «module» = m.0; name = n.0; type_index = t.0 }, t.1)
    (m.1, n.1, from, hm, hn, hf, ht)) never) never) never) never

pub table_sound :
    (bytes : List ℕ)
    → Sound (λ x. IsTable bytes x.0 x.1 × MinWithin max_table_entries x.0) (TableOver bytes) (read_table true bytes)
unfolding read_table
table_sound bytes =
    sound_then (skip_sound table_type_byte bytes)
    (λ from hf. sound_more (limits_sound max_table_entries from) (λ x h. ((from, hf, h.0), h.1))
    (λ q. (from, hf, q))) never

pub memory_sound :
    (bytes : List ℕ)
    → Sound (λ x. IsMemory bytes x.0 x.1 × MinWithin max_memory_pages x.0) (MemoryOver bytes) (read_memory true bytes)
unfolding read_memory
memory_sound bytes = limits_sound max_memory_pages bytes

mutable_sound : (b : ℕ) (bs : List ℕ) → Sound (λ x. b ∷ bs ≡ mutability_byte x.0 ∷ x.1) ⊥ (mutability_of b bs)
unfolding mutability_of
mutable_sound b bs = sound_if (eqb b 0)
    (λ e. sound_ok (mutability.Const, bs) (ap (λ (x : ℕ). x ∷ bs) (eqb-true b 0 e)))
    (λ _. sound_need (eqb b 1) (λ e. sound_ok (mutability.Var, bs) (ap (λ (x : ℕ). x ∷ bs) (eqb-true b 1 e))))

mutability_sound : (bytes : List ℕ) → Sound (λ x. bytes ≡ mutability_byte x.0 ∷ x.1) ⊥ (read_mutability bytes)
unfolding read_mutability
mutability_sound bytes = sound_then (byte_sound bytes) (λ b hb. rw hb (mutable_sound b.0 b.1)) never

pub global_sound :
    (bytes : List ℕ)
    → Sound (λ x. IsGlobal bytes x.0 x.1 × NestsWithin x.0.init) (GlobalOver bytes) (read_global true bytes)
unfolding read_global
global_sound bytes =
    sound_then (type_sound bytes)
    (λ t ht. sound_then (mutability_sound t.1) (λ m hm. sound_then (expression_sound m.1) (λ os hos.
    sound_ok (record { val_type = t.0; mutability = m.0; init = os.0 }, os.1) ((t.1, m.1, ht, hm, hos.0), hos.1))
    (λ q. (t.0, m.0, t.1, m.1, ht, hm, q))) never) never

exported_sound : (b : ℕ) (bs : List ℕ) → Sound (λ x. b ∷ bs ≡ kind_byte x.0 ∷ x.1) ⊥ (kind_of b bs)
unfolding kind_of
exported_sound b bs = sound_if (eqb b 0) (λ e. sound_ok (kinds.Func, bs) (ap (λ (x : ℕ). x ∷ bs) (eqb-true b 0 e)))
    (λ _. sound_if (eqb b 1) (λ e. sound_ok (kinds.Table, bs) (ap (λ (x : ℕ). x ∷ bs) (eqb-true b 1 e)))
    (λ _. sound_if (eqb b 2) (λ e. sound_ok (kinds.Memory, bs) (ap (λ (x : ℕ). x ∷ bs) (eqb-true b 2 e)))
    (λ _. sound_need (eqb b 3) (λ e. sound_ok (kinds.Global, bs) (ap (λ (x : ℕ). x ∷ bs) (eqb-true b 3 e))))))

kind_sound : (bytes : List ℕ) → Sound (λ x. bytes ≡ kind_byte x.0 ∷ x.1) ⊥ (read_kind bytes)
unfolding read_kind
kind_sound bytes = sound_then (byte_sound bytes) (λ b hb. rw hb (exported_sound b.0 b.1)) never

pub export_sound : (bytes : List ℕ) → Sound (λ x. IsExport bytes x.0 x.1) ⊥ (read_export bytes)
unfolding read_export
export_sound bytes =
    sound_then (name_sound bytes) (λ n hn. sound_then (kind_sound n.1) (λ k hk. sound_then (u32_sound k.1) (λ i hi.
    sound_ok (record { name = n.0; kind = k.0; index = i.0 }, i.1) (n.1, k.1, hn, hk, hi)) never) never) never

pub start_sound : (bytes : List ℕ) → Sound (λ x. IsStart bytes x.0 x.1) ⊥ (read_start bytes)
unfolding read_start
start_sound bytes = sound_then (u32_sound bytes) (λ f hf. sound_ok (Some f.0, f.1) hf) never

-- an index, and an offset
abbrev PlaceRead : List ℕ → (ℕ × Ops) × List ℕ → Type 0
PlaceRead bytes x = (from : List ℕ) × IsU32 bytes x.0.0 from × IsExpression from x.0.1 x.1 × NestsWithin x.0.1

place_sound : (bytes : List ℕ) → Sound (PlaceRead bytes) (OffsetOver bytes) (read_place true bytes)
unfolding read_place
place_sound bytes =
    sound_then (u32_sound bytes)
    (λ i hi. sound_then (expression_sound i.1) (λ os hos. sound_ok ((i.0, os.0), os.1) (i.1, hi, hos.0, hos.1))
    (λ q. (i.0, i.1, hi, q))) never

pub element_sound :
    (bytes : List ℕ)
    → Sound (λ x. IsElement bytes x.0 x.1 × NestsWithin x.0.offset) (OffsetOver bytes) (read_element true bytes)
unfolding read_element
element_sound bytes =
    sound_then (place_sound bytes) (λ p hp. sound_then (vector_sound IsU32 read_u32 u32_sound p.1) (λ fs hfs.
    sound_ok (record { table = p.0.0; offset = p.0.1; funcs = fs.0 }, fs.1) ((hp.0, p.1, hp.1, hp.2, hfs), hp.3)) never)
    (λ q. q)

pub segment_sound :
    (bytes : List ℕ)
    → Sound (λ x. IsSegment bytes x.0 x.1 × NestsWithin x.0.offset) (OffsetOver bytes) (read_segment true bytes)
unfolding read_segment
segment_sound bytes = sound_then (place_sound bytes) (λ p hp. sound_then (byte_vector_sound p.1) (λ bs hbs.
    sound_ok (record { memory = p.0.0; offset = p.0.1; bytes = bs.0 }, bs.1) ((hp.0, p.1, hp.1, hp.2, hbs), hp.3))
    never) (λ q. q)
