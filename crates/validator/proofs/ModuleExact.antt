-- The tests of the parts of a module decide its rules of validity.
use Rattle.std.proofs.Common.{◌≡◌, ℕ, ◌+◌, ◌^◌, ◌<◌, ◌≤◌, nat_le, nat_lt, Bool, true, ◌&&◌, List, [], ◌∷◌, reverse, length, map, All, Option, Some, None, refl, sym, ap, subst, ◌∙◌, arith}
use Rattle.std.specs.Prelude.{slice_get}
use Rattle.std.proofs.lemmas.Bool.Decides.{nat_tests}
use Rattle.std.proofs.lemmas.List.Elements.{All-cons, All-nil, All-head, All-tail}
use Rattle.wasm_ast.specs.declared.values.ValType.{ValType}
use Rattle.wasm_ast.specs.declared.values.ValType.TheVariants.{I32}
use Rattle.wasm_ast.specs.declared.values.FuncType.{FuncType}
use Rattle.wasm_ast.specs.declared.instr.Simple.TheVariants as instr
use Rattle.wasm_ast.specs.declared.module.Import.{Import}
use Rattle.wasm_ast.specs.declared.module.Export.{Export}
use Rattle.wasm_ast.specs.declared.module.Func.{Func}
use Rattle.wasm_ast.specs.declared.module.Limits.{Limits}
use Rattle.wasm_ast.specs.declared.module.Global.{Global}
use Rattle.wasm_ast.specs.declared.module.Element.{Element}
use Rattle.wasm_ast.specs.declared.module.Segment.{Segment}
use Rattle.wasm_ast.specs.declared.module.ExportKind.{ExportKind}
use Rattle.wasm_ast.specs.declared.module.ExportKind.TheVariants as kind
use Rattle.wasm_ast.specs.declared.module.Module.{Module}
use Rattle.wasm_ast.specs.Syntax.{simple, Ops, stop, next}
use Rattle.wasm_ast.specs.Types.{is_same_type, type_of, func_types, type_at}
use Rattle.wasm_ast.specs.Limits.{are_all}
use Rattle.validator.specs.Typing.{standard_pages, body_context, Typed, ValidBody, IsConstant, ValidMax, ValidLimits, IsFunction, IsThere, ValidStart, ValidElement, ValidSegment, AllDifferent, ValidOutside}
use Rattle.validator.specs.Inside.Algorithm.{start, ends, check_ops}
use Rattle.validator.specs.Inside.FunctionContext.{passes_func}
use Rattle.validator.specs.Inside.ModuleTests.{is_typed_import, is_typed_func, is_valid_max, are_valid_limits, is_constant, is_valid_global, is_function, is_there, is_valid_export, is_nil, is_bare, is_valid_start, is_valid_element, is_valid_segment, is_alone, declares_validly, defines_validly}
use Rattle.wasm_ast.proofs.SameTypes.{same_type, itself}
use Rattle.validator.proofs.StackMatching.{both}
use Rattle.validator.proofs.SequenceExact.{body_sound, body_exact, ops_sound, ops_exact}

pub all_hold :
    {X : Type 0} (P : X → Type 0) (test : X → Bool) → ((x : X) → test x ≡ true → P x) → (xs : List X)
    → are_all test xs ≡ true → All P xs
all_hold P test one [] h = All-nil P
all_hold P test one (x ∷ xs) h =
    let parts = both (test x) (are_all test xs) h in
    All-cons P x xs (one x parts.0) (all_hold P test one xs parts.1)

pub and_both : (a b : Bool) → a ≡ true → b ≡ true → (a && b) ≡ true
and_both a b h k = ap (λ c. c && b) h ∙ k

pub hold_all :
    {X : Type 0} (P : X → Type 0) (test : X → Bool) → ((x : X) → P x → test x ≡ true) → (xs : List X) → All P xs
    → are_all test xs ≡ true
hold_all P test one [] h = refl
hold_all P test one (x ∷ xs) h =
    and_both (test x) (are_all test xs) (one x (All-head P x xs h)) (hold_all P test one xs (All-tail P x xs h))

at_most : (a b : ℕ) → nat_le a b ≡ true → a ≤ b
at_most a b h = grind (arith, nat_tests)

within : (a b : ℕ) → a ≤ b → nat_le a b ≡ true
within a b h = grind (arith, nat_tests)

below : (a b : ℕ) → nat_lt a b ≡ true → a < b
below a b h = grind (arith, nat_tests)

under : (a b : ℕ) → a < b → nat_lt a b ≡ true
under a b h = grind (arith, nat_tests)

-- ---- limits

max_sound : (range min : ℕ) (max : Option ℕ) → is_valid_max range min max ≡ true → ValidMax range min max
max_sound range min None h = tt
max_sound range min (Some max) h =
    let parts = both (nat_le max range) (nat_le min max) h in
    (at_most max range parts.0, at_most min max parts.1)

max_exact : (range min : ℕ) (max : Option ℕ) → ValidMax range min max → is_valid_max range min max ≡ true
max_exact range min None h = refl
max_exact range min (Some max) h =
    and_both (nat_le max range) (nat_le min max) (within max range h.0) (within min max h.1)

limits_sound : (range : ℕ) (l : Limits) → are_valid_limits range l ≡ true → ValidLimits range l
limits_sound range l h =
    let parts = both (nat_le l.min range) (is_valid_max range l.min l.max) h in
    (at_most l.min range parts.0, max_sound range l.min l.max parts.1)

limits_exact : (range : ℕ) (l : Limits) → ValidLimits range l → are_valid_limits range l ≡ true
limits_exact range l h =
    and_both (nat_le l.min range) (is_valid_max range l.min l.max) (within l.min range h.0)
    (max_exact range l.min l.max h.1)

-- ---- constant expressions

constant_sound : (t : ValType) (os : Ops) → is_constant t os ≡ true → IsConstant t os
constant_sound t stop h = cc
constant_sound t (next (simple (instr.Const value)) stop) h = same_type (type_of value) t h
constant_sound t _ h = cc

constant_exact : (t : ValType) (os : Ops) → IsConstant t os → is_constant t os ≡ true
constant_exact t stop h = absurd h
constant_exact t (next (simple (instr.Const value)) stop) h =
    subst (λ (u : ValType). is_same_type (type_of value) u ≡ true) h (itself (type_of value))
constant_exact t _ h = absurd h

-- ---- what indices name

function_sound : (m : Module) (k : ℕ) → is_function m k ≡ true → IsFunction m k
function_sound m k h = below k (length m.imports + length m.funcs) h

function_exact : (m : Module) (k : ℕ) → IsFunction m k → is_function m k ≡ true
function_exact m k h = under k (length m.imports + length m.funcs) h

there_sound : (m : Module) (of : ExportKind) (k : ℕ) → is_there m of k ≡ true → IsThere m of k
there_sound m kind.Func k h = function_sound m k h
there_sound m kind.Table k h = below k (length m.tables) h
there_sound m kind.Memory k h = below k (length m.memories) h
there_sound m kind.Global k h = below k (length m.globals) h

there_exact : (m : Module) (of : ExportKind) (k : ℕ) → IsThere m of k → is_there m of k ≡ true
there_exact m kind.Func k h = function_exact m k h
there_exact m kind.Table k h = under k (length m.tables) h
there_exact m kind.Memory k h = under k (length m.memories) h
there_exact m kind.Global k h = under k (length m.globals) h

abbrev bare : FuncType
bare = record { params = []; results = [] }

nil : {A : Type 0} (xs : List A) → is_nil xs ≡ true → xs ≡ []
nil [] h = refl
nil (x ∷ xs) h = cc

bare_sound : (o : Option FuncType) → is_bare o ≡ true → o ≡ Some bare
bare_sound None h = cc
bare_sound (Some t) h =
    let parts = both (is_nil t.params) (is_nil t.results) h in
    let params = nil t.params parts.0 in
    let results = nil t.results parts.1 in
    λ i. Some (record { params = params i; results = results i })

bare_exact : (o : Option FuncType) → o ≡ Some bare → is_bare o ≡ true
bare_exact o h = ap is_bare h

start_sound : (m : Module) (start : Option ℕ) → is_valid_start m start ≡ true → ValidStart m start
start_sound m None h = tt
start_sound m (Some func) h = bare_sound (type_at (func_types m) func) h

start_exact : (m : Module) (start : Option ℕ) → ValidStart m start → is_valid_start m start ≡ true
start_exact m None h = refl
start_exact m (Some func) h = bare_exact (type_at (func_types m) func) h

both_of_three : (a b c : Bool) → (a && b && c) ≡ true → (a ≡ true) × (b ≡ true) × (c ≡ true)
both_of_three a b c h =
    let outer = both (a && b) c h in
    let inner = both a b outer.0 in
    (inner.0, inner.1, outer.1)

element_sound : (m : Module) (e : Element) → is_valid_element m e ≡ true → ValidElement m e
element_sound m e h =
    let parts =
    both_of_three (nat_lt e.table (length m.tables)) (is_constant I32 e.offset) (are_all (is_function m) e.funcs) h
    in (
      below e.table (length m.tables) parts.0,
      constant_sound I32 e.offset parts.1,
      all_hold (IsFunction m) (is_function m) (function_sound m) e.funcs parts.2,
    )

element_exact : (m : Module) (e : Element) → ValidElement m e → is_valid_element m e ≡ true
element_exact m e h =
    and_both (nat_lt e.table (length m.tables) && is_constant I32 e.offset) (are_all (is_function m) e.funcs)
    (and_both (nat_lt e.table (length m.tables)) (is_constant I32 e.offset) (under e.table (length m.tables) h.0)
    (constant_exact I32 e.offset h.1))
    (hold_all (IsFunction m) (is_function m) (function_exact m) e.funcs h.2)

segment_sound : (m : Module) (s : Segment) → is_valid_segment m s ≡ true → ValidSegment m s
segment_sound m s h =
    let parts = both (nat_lt s.memory (length m.memories)) (is_constant I32 s.offset) h in
    (below s.memory (length m.memories) parts.0, constant_sound I32 s.offset parts.1)

segment_exact : (m : Module) (s : Segment) → ValidSegment m s → is_valid_segment m s ≡ true
segment_exact m s h =
    and_both (nat_lt s.memory (length m.memories)) (is_constant I32 s.offset) (under s.memory (length m.memories) h.0)
    (constant_exact I32 s.offset h.1)

-- ---- functions

pub func_valid :
    (m : Module) (t : FuncType) (f : Func) → slice_get m.types f.type_index ≡ Some t
    → passes_func m t f ≡ true → ValidBody m f
func_valid m t f is h u other =
    let some : Some t ≡ Some u = sym is ∙ other in
    let same : t ≡ u = cc in
    subst (λ (t : FuncType). Typed (body_context m t f) f.body [] (reverse t.results)) same
    (body_sound (body_context m t f) f.body (record { params = []; results = t.results })
    (ops_sound (body_context m t f) f.body) h)

-- nothing is asked of the body of a function without a type
pub untyped_valid : (m : Module) (f : Func) → slice_get m.types f.type_index ≡ None → ValidBody m f
untyped_valid m f none t is = cc

pub func_passes :
    (m : Module) (t : FuncType) (f : Func) → slice_get m.types f.type_index ≡ Some t → ValidBody m f
    → passes_func m t f ≡ true
func_passes m t f is v =
    body_exact (body_context m t f) f.body (record { params = []; results = t.results })
    (ops_exact (body_context m t f) f.body) (v t is)

-- ---- modules

abbrev OfFuncs : Module → Func → Type 0
OfFuncs m f = f.type_index < length m.types

abbrev OfImports : Module → Import → Type 0
OfImports m i = i.type_index < length m.types

abbrev OfGlobals : Global → Type 0
OfGlobals g = IsConstant g.val_type g.init

abbrev OfExports : Module → Export → Type 0
OfExports m e = IsThere m e.kind e.index

pub outside_valid :
    (m : Module) → declares_validly m ≡ true → defines_validly m ≡ true
    → AllDifferent (map (λ (e : Export). e.name) m.exports) → ValidOutside m
outside_valid m declared defined names =
    let imports = are_all (is_typed_import m.types) m.imports in
    let funcs = are_all (is_typed_func m.types) m.funcs in
    let tables = are_all (are_valid_limits (2 ^ 32)) m.tables in
    let memories = are_all (are_valid_limits standard_pages) m.memories in
    let d5 = both (imports && funcs && is_alone m.tables && tables && is_alone m.memories) memories declared in
    let d4 = both (imports && funcs && is_alone m.tables && tables) (is_alone m.memories) d5.0 in
    let d3 = both (imports && funcs && is_alone m.tables) tables d4.0 in
    let d2 = both_of_three imports funcs (is_alone m.tables) d3.0 in
    let globals = are_all is_valid_global m.globals in
    let exports = are_all (is_valid_export m) m.exports in
    let elements = are_all (is_valid_element m) m.elements in
    let segments = are_all (is_valid_segment m) m.segments in
    let e4 = both (globals && exports && is_valid_start m m.start && elements) segments defined in
    let e3 = both (globals && exports && is_valid_start m m.start) elements e4.0 in
    let e2 = both_of_three globals exports (is_valid_start m m.start) e3.0 in
    record {
      imports =
          all_hold (OfImports m) (is_typed_import m.types) (λ i. below i.type_index (length m.types)) m.imports d2.0;
      funcs = all_hold (OfFuncs m) (is_typed_func m.types) (λ f. below f.type_index (length m.types)) m.funcs d2.1;
      one_table = at_most (length m.tables) 1 d2.2;
      tables = all_hold (ValidLimits (2 ^ 32)) (are_valid_limits (2 ^ 32)) (limits_sound (2 ^ 32)) m.tables d3.1;
      one_memory = at_most (length m.memories) 1 d4.1;
      memories =
          all_hold (ValidLimits standard_pages) (are_valid_limits standard_pages) (limits_sound standard_pages)
          m.memories d5.1;
      globals = all_hold OfGlobals is_valid_global (λ g. constant_sound g.val_type g.init) m.globals e2.0;
      exports = all_hold (OfExports m) (is_valid_export m) (λ e. there_sound m e.kind e.index) m.exports e2.1;
      names = names;
      start = start_sound m m.start e2.2;
      elements = all_hold (ValidElement m) (is_valid_element m) (element_sound m) m.elements e3.1;
      segments = all_hold (ValidSegment m) (is_valid_segment m) (segment_sound m) m.segments e4.1;
    }

pub outside_declares : (m : Module) → ValidOutside m → declares_validly m ≡ true
outside_declares m v =
    let imports = are_all (is_typed_import m.types) m.imports in
    let funcs = are_all (is_typed_func m.types) m.funcs in
    let tables = are_all (are_valid_limits (2 ^ 32)) m.tables in
    let memories = are_all (are_valid_limits standard_pages) m.memories in
    and_both (imports && funcs && is_alone m.tables && tables && is_alone m.memories) memories
    (and_both (imports && funcs && is_alone m.tables && tables) (is_alone m.memories)
    (and_both (imports && funcs && is_alone m.tables) tables
    (and_both (imports && funcs) (is_alone m.tables)
    (and_both imports funcs
    (hold_all (OfImports m) (is_typed_import m.types) (λ i. under i.type_index (length m.types)) m.imports v.imports)
    (hold_all (OfFuncs m) (is_typed_func m.types) (λ f. under f.type_index (length m.types)) m.funcs v.funcs))
    (within (length m.tables) 1 v.one_table))
    (hold_all (ValidLimits (2 ^ 32)) (are_valid_limits (2 ^ 32)) (limits_exact (2 ^ 32)) m.tables v.tables))
    (within (length m.memories) 1 v.one_memory))
    (hold_all (ValidLimits standard_pages) (are_valid_limits standard_pages) (limits_exact standard_pages)
    m.memories v.memories)

pub outside_defines : (m : Module) → ValidOutside m → defines_validly m ≡ true
outside_defines m v =
    let globals = are_all is_valid_global m.globals in
    let exports = are_all (is_valid_export m) m.exports in
    let elements = are_all (is_valid_element m) m.elements in
    let segments = are_all (is_valid_segment m) m.segments in
    and_both (globals && exports && is_valid_start m m.start && elements) segments
    (and_both (globals && exports && is_valid_start m m.start) elements
    (and_both (globals && exports) (is_valid_start m m.start)
    (and_both globals exports
    (hold_all OfGlobals is_valid_global (λ g. constant_exact g.val_type g.init) m.globals v.globals)
    (hold_all (OfExports m) (is_valid_export m) (λ e. there_exact m e.kind e.index) m.exports v.exports))
    (start_exact m m.start v.start))
    (hold_all (ValidElement m) (is_valid_element m) (element_exact m) m.elements v.elements))
    (hold_all (ValidSegment m) (is_valid_segment m) (segment_exact m) m.segments v.segments)

-- the same check with what the code passes on
pub passes_at :
    (m : Module) (t : FuncType) (f : Func) (labels : List (List ValType)) (results : List ValType) → labels ≡ []
    → results ≡ t.results
    → ends results (check_ops (record (body_context m t f) { labels = results ∷ labels }) f.body (start []))
    ≡ passes_func m t f
passes_at m t f labels results none same =
    ap (λ (ls : List (List ValType)). ends results
    (check_ops (record (body_context m t f) { labels = results ∷ ls }) f.body (start []))) none
    ∙ ap
    (λ (rs : List ValType). ends rs
    (check_ops (record (body_context m t f) { labels = rs ∷ [] }) f.body (start []))) same

-- all of it but the names of exports, in one test
pub declared_valid :
    (m : Module) → declares_validly m && defines_validly m ≡ true
    → AllDifferent (map (λ (e : Export). e.name) m.exports) → ValidOutside m
declared_valid m h names =
    let two = both (declares_validly m) (defines_validly m) h in outside_valid m two.0 two.1 names

pub valid_declared : (m : Module) → ValidOutside m → declares_validly m && defines_validly m ≡ true
valid_declared m v =
    and_both (declares_validly m) (defines_validly m) (outside_declares m v) (outside_defines m v)
