-- The test of the limits decides them.
use Rattle.std.proofs.Common.{◌≡◌, ◌+◌, ◌<◌, ◌≤◌, nat_le, ◌&&◌, ◌∙◌, List, [], ◌∷◌, All, ℕ, Bool, true, false, arith, refl, sym, ap, drop, get_or, length}
use Rattle.std.proofs.lemmas.List.{drop_more}
use Rattle.std.proofs.lemmas.Bool.Decides.{nat_tests}
use Rattle.std.proofs.lemmas.List.Elements.{All-cons, All-nil, All-head, All-tail}
use Rattle.wasm_ast.specs.declared.values.FuncType.{FuncType}
use Rattle.wasm_ast.specs.declared.module.Func.{Func}
use Rattle.wasm_ast.specs.declared.module.Module.{Module}
use Rattle.wasm_ast.specs.declared.module.Limits.{Limits}
use Rattle.wasm_ast.specs.declared.module.Global.{Global}
use Rattle.wasm_ast.specs.declared.module.Element.{Element}
use Rattle.wasm_ast.specs.declared.module.Segment.{Segment}
use Rattle.wasm_ast.specs.Syntax.{Ops}
use Rattle.wasm_ast.specs.Limits.{ops_depth, max_results, max_nesting, max_table_entries, max_memory_pages, FuncWithin, Within, is_func_within, are_all, is_within}

abbrev pub TypeWithin : FuncType → Type 0
TypeWithin t = length t.results ≤ max_results

-- the first size of a table or a memory
abbrev pub MinWithin : (most : ℕ) → Limits → Type 0
MinWithin most l = l.min ≤ most

-- an expression outside the functions
abbrev pub NestsWithin : Ops → Type 0
NestsWithin os = ops_depth os ≤ max_nesting

-- the same as tests
abbrev pub is_type_within : FuncType → Bool
is_type_within t = nat_le (length t.results) max_results

abbrev pub is_min_within : (most : ℕ) → Limits → Bool
is_min_within most l = nat_le l.min most

abbrev pub nests_within : Ops → Bool
nests_within os = nat_le (ops_depth os) max_nesting

type_within : (t : FuncType) → is_type_within t ≡ true → TypeWithin t
type_within t h = grind (arith, nat_tests)

within_type : (t : FuncType) → TypeWithin t → is_type_within t ≡ true
within_type t h = grind (arith, nat_tests)

func_within : (types : List FuncType) (f : Func) → is_func_within types f ≡ true → FuncWithin types f
func_within types f h = record {
  locals = grind (arith, nat_tests);
  nesting = grind (arith, nat_tests);
}

within_func : (types : List FuncType) (f : Func) → FuncWithin types f → is_func_within types f ≡ true
within_func types f w =
    let locals = w.locals in
    let nesting = w.nesting in
    grind (arith, nat_tests)

all_hold :
    {X : Type 0} (P : X → Type 0) (test : X → Bool) → ((x : X) → test x ≡ true → P x) → (xs : List X)
    → are_all test xs ≡ true → All P xs
all_hold P test one [] h = All-nil P
all_hold P test one (x ∷ xs) h =
    All-cons P x xs (one x (grind (arith, nat_tests))) (all_hold P test one xs (grind (arith, nat_tests)))

hold_all :
    {X : Type 0} (P : X → Type 0) (test : X → Bool) → ((x : X) → P x → test x ≡ true) → (xs : List X) → All P xs
    → are_all test xs ≡ true
hold_all P test one [] h = refl
hold_all P test one (x ∷ xs) h =
    let here = one x (All-head P x xs h) in
    let there = hold_all P test one xs (All-tail P x xs h) in
    grind (arith, nat_tests)

min_within : (most : ℕ) (l : Limits) → is_min_within most l ≡ true → MinWithin most l
min_within most l h = grind (arith, nat_tests)

within_min : (most : ℕ) (l : Limits) → MinWithin most l → is_min_within most l ≡ true
within_min most l h = grind (arith, nat_tests)

nests : (os : Ops) → nests_within os ≡ true → NestsWithin os
nests os h = grind (arith, nat_tests)

nested : (os : Ops) → NestsWithin os → nests_within os ≡ true
nested os h = grind (arith, nat_tests)

pub module_within : (m : Module) → is_within m ≡ true → Within m
module_within m h = record {
  types = all_hold TypeWithin is_type_within type_within m.types (grind (arith, nat_tests));
  functions = grind (arith, nat_tests);
  funcs =
      all_hold (FuncWithin m.types) (is_func_within m.types) (func_within m.types) m.funcs (grind (arith, nat_tests));
  tables =
      all_hold (MinWithin max_table_entries) (is_min_within max_table_entries) (min_within max_table_entries) m.tables
      (grind (arith, nat_tests));
  memories =
      all_hold (MinWithin max_memory_pages) (is_min_within max_memory_pages) (min_within max_memory_pages) m.memories
      (grind (arith, nat_tests));
  globals =
      all_hold (λ (g : Global). NestsWithin g.init) (λ (g : Global). nests_within g.init) (λ (g : Global). nests g.init)
      m.globals (grind (arith, nat_tests));
  elements =
      all_hold (λ (e : Element). NestsWithin e.offset) (λ (e : Element). nests_within e.offset)
      (λ (e : Element). nests e.offset) m.elements (grind (arith, nat_tests));
  segments =
      all_hold (λ (s : Segment). NestsWithin s.offset) (λ (s : Segment). nests_within s.offset)
      (λ (s : Segment). nests s.offset) m.segments (grind (arith, nat_tests));
}

pub within_module : (m : Module) → Within m → is_within m ≡ true
within_module m w =
    let types = hold_all TypeWithin is_type_within within_type m.types w.types in
    let functions = w.functions in
    let funcs = hold_all (FuncWithin m.types) (is_func_within m.types) (within_func m.types) m.funcs w.funcs in
    let tables =
    hold_all (MinWithin max_table_entries) (is_min_within max_table_entries) (within_min max_table_entries)
    m.tables w.tables in
    let memories =
    hold_all (MinWithin max_memory_pages) (is_min_within max_memory_pages) (within_min max_memory_pages)
    m.memories w.memories in
    let globals =
    hold_all (λ (g : Global). NestsWithin g.init) (λ (g : Global). nests_within g.init)
    (λ (g : Global). nested g.init) m.globals w.globals in
    let elements =
    hold_all (λ (e : Element). NestsWithin e.offset) (λ (e : Element). nests_within e.offset)
    (λ (e : Element). nested e.offset) m.elements w.elements in
    let segments =
    hold_all (λ (s : Segment). NestsWithin s.offset) (λ (s : Segment). nests_within s.offset)
    (λ (s : Segment). nested s.offset) m.segments w.segments in
    grind (arith, nat_tests)

-- a test of all items, of which those so far and the next one are tested
pub one_more :
    {X : Type 0} (test : X → Bool) (so_far : Bool) (xs : List X) (i : ℕ) (x : X) → i < length xs → x ≡ get_or xs i x
    → ((so_far && test x) && are_all test (drop (i + 1) xs)) ≡ (so_far && are_all test (drop i xs))
one_more test true xs i x h e =
    ap (λ y. are_all test (y ∷ drop (i + 1) xs)) e ∙ ap (are_all test) (sym (drop_more xs i x h))
one_more test false xs i x h e = refl
