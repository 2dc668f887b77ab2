-- What a store begins with: its lists item by item, and the ranges and types of a module's first store.
use Rattle.std.proofs.Common.{◌≡◌, ℕ, zero, suc, ◌+◌, ◌-◌, ◌*◌, ◌/◌, ◌^◌, ◌<◌, ◌≤◌, List, [], ◌∷◌, ◌++◌, map, take, drop, length, All, true, ◌&&◌, Option, Some, None, subst, refl, sym, ap, ◌∙◌, arith}
use Rattle.std.specs.Prelude.{nat_le, slice_set, slice_index_or, fold, unwrap_or}
use Rattle.std.proofs.lemmas.Bool.Decides.{nat_tests}
use Rattle.std.proofs.lemmas.List.{length-take-le, length-drop, length-replicate, drop-drop, set-append_right}
use Rattle.std.proofs.lemmas.List.Elements.{All-nil, All-cons, All-head, All-tail, All-map, All-append, All-take, All-drop, All-replicate}
use Rattle.wasm_ast.specs.declared.values.ValType.{ValType}
use Rattle.wasm_ast.specs.declared.instr.Simple.TheVariants as instr
use Rattle.wasm_ast.specs.declared.module.Limits.{Limits}
use Rattle.wasm_ast.specs.declared.module.Global.{Global}
use Rattle.wasm_ast.specs.declared.module.Element.{Element}
use Rattle.wasm_ast.specs.declared.module.Segment.{Segment}
use Rattle.wasm_ast.specs.declared.module.Module.{Module}
use Rattle.wasm_ast.specs.Syntax.{simple, Ops, stop, next}
use Rattle.wasm_ast.specs.Types.{type_of, zero_of}
use Rattle.wasm_ast.specs.Ranged.{RangedValue, RangedOps, RangedGlobal, Ranged}
use Rattle.validator.specs.Typing.{IsConstant, ValidLimits, standard_pages, ValidElement, ValidModule}
use Rattle.linear_memory.specs.Memory.{Memory, is_inside, pages_of, page_bytes}
use Rattle.oci_config.specs.declared.process.ProcessConfig.{ProcessConfig}
use Rattle.step_machine.specs.Instantiation.{constant, first_global, offset_of, most_pages, zero_memory, empty_table, with_items, with_element, with_segment, first_memory, are_segments_inside, first_store}
use Rattle.step_machine.specs.Inside.Simulates.{InTable, RangedStore}
use Rattle.step_machine.proofs.HostCallLemmas.{both}
use Rattle.step_machine.proofs.StoreRanges.{same_length}

-- ---- a table's functions are written one after the other

abbrev some : ℕ → Option ℕ
some f = Some f

from_start : (t : List (Option ℕ)) (fs : List ℕ) (k : ℕ) → k < length fs → length fs ≤ length t
    → slice_set (map some (take k fs) ++ drop (length (map some (take k fs))) t) k (Some (slice_index_or fs k 0))
    ≡ map some (take (suc k) fs) ++ drop (length (map some (take (suc k) fs))) t
from_start t [] k h n = absurd (omega arith)
from_start [] (f ∷ fs) k h n = absurd (omega arith)
from_start (x ∷ t) (f ∷ fs) zero h n = refl
from_start (x ∷ t) (f ∷ fs) (suc k) h n =
    ap (λ (ys : List (Option ℕ)). Some f ∷ ys) (from_start t fs k (omega arith) (omega arith))

-- the items after a start are those of the rest of the list
apart :
    (t : List (Option ℕ)) (o : ℕ) (ys : List (Option ℕ))
    → with_items t o ys ≡ take o t ++ (ys ++ drop (length ys) (drop o t))
apart t o ys = ap (λ (zs : List (Option ℕ)). take o t ++ (ys ++ zs)) (sym (drop-drop (length ys) o t))

pub one_func : (t : List (Option ℕ)) (o : ℕ) (fs : List ℕ) (k : ℕ) → k < length fs → o + length fs ≤ length t
    → slice_set (with_items t o (map some (take k fs))) (o + k) (Some (slice_index_or fs k 0))
    ≡ with_items t o (map some (take (k + 1) fs))
one_func t o fs k h n =
    let f = Some (slice_index_or fs k 0) in
    let next : suc k ≡ k + 1 = omega arith in
    let there : o + k - o ≡ k = omega arith in
    let few = length-drop o t in
    let first = map some (take k fs) in
    let rest = first ++ drop (length first) (drop o t) in
    ap (λ (xs : List (Option ℕ)). slice_set xs (o + k) f) (apart t o first)
    ∙ (set-append_right (take o t) rest o (o + k) f (length-take-le o t (omega (arith, n))) (omega arith)
    ∙ (ap (λ j. take o t ++ slice_set rest j f) there
    ∙ (ap (λ (xs : List (Option ℕ)). take o t ++ xs) (from_start (drop o t) fs k h (omega (arith, few, n)))
    ∙ (sym (apart t o (map some (take (suc k) fs))) ∙ ap (λ j. with_items t o (map some (take j fs))) next))))

-- ---- what is written leaves the rest inside

segment_keeps_length :
    (m : Memory) (s : Segment) → is_inside m (offset_of s.offset) (length s.bytes) ≡ true
    → length (with_segment m s).bytes ≡ length m.bytes
segment_keeps_length m s h =
    let fits : offset_of s.offset + length s.bytes ≤ length m.bytes = grind (arith, nat_tests, h) in
    same_length m (offset_of s.offset) s.bytes fits

same_inside :
    (m n : Memory) (ss : List Segment) → length m.bytes ≡ length n.bytes
    → are_segments_inside m ss ≡ are_segments_inside n ss
same_inside m n [] e = refl
same_inside m n (s ∷ ss) e =
    ap (λ k. nat_le (offset_of s.offset + length s.bytes) k && are_segments_inside m ss) e
    ∙ ap (λ b. nat_le (offset_of s.offset + length s.bytes) (length n.bytes) && b) (same_inside m n ss e)

pub other_segments :
    (m : Memory) (s : Segment) (ss : List Segment) → are_segments_inside m (s ∷ ss) ≡ true
    → are_segments_inside (with_segment m s) ss ≡ true
other_segments m s ss h =
    let b = both (is_inside m (offset_of s.offset) (length s.bytes)) (are_segments_inside m ss) h in
    same_inside (with_segment m s) m ss (segment_keeps_length m s b.0) ∙ b.1

-- ---- a module's first store

-- after its segments a memory has the bytes that it began with in number, and the same cap
fold_length :
    (m : Memory) (ss : List Segment) → are_segments_inside m ss ≡ true
    → length (fold with_segment m ss).bytes ≡ length m.bytes
fold_length m [] h = refl
fold_length m (s ∷ ss) h =
    let b = both (is_inside m (offset_of s.offset) (length s.bytes)) (are_segments_inside m ss) h in
    fold_length (with_segment m s) ss (other_segments m s ss h) ∙ segment_keeps_length m s b.0

fold_cap : (m : Memory) (ss : List Segment) → (fold with_segment m ss).cap ≡ m.cap
fold_cap m [] = refl
fold_cap m (s ∷ ss) = fold_cap (with_segment m s) ss

global_ranged :
    (g : Global) → IsConstant g.val_type g.init → RangedGlobal g
    → RangedValue (first_global g) × (type_of (first_global g) ≡ g.val_type)
global_ranged g typed ranged = of_init g.init typed ranged
  where
    of_init :
        (os : Ops) → IsConstant g.val_type os → RangedOps os
        → RangedValue (unwrap_or (constant os) (zero_of g.val_type))
        × (type_of (unwrap_or (constant os) (zero_of g.val_type)) ≡ g.val_type)
    of_init (next (simple (instr.Const v)) stop) typed ranged = (ranged.0, typed)
    of_init _ typed ranged = absurd typed

abbrev IsTyped : Global → Type 0
IsTyped g = IsConstant g.val_type g.init

globals_ranged : (gs : List Global) → All IsTyped gs → All RangedGlobal gs → All RangedValue (map first_global gs)
globals_ranged [] typed ranged = All-nil RangedValue
globals_ranged (g ∷ gs) typed ranged =
    All-cons RangedValue (first_global g) (map first_global gs)
    (global_ranged g (All-head IsTyped g gs typed) (All-head RangedGlobal g gs ranged)).0
    (globals_ranged gs (All-tail IsTyped g gs typed) (All-tail RangedGlobal g gs ranged))

globals_typed :
    (gs : List Global) → All IsTyped gs → All RangedGlobal gs
    → map type_of (map first_global gs) ≡ map (λ (g : Global). g.val_type) gs
globals_typed [] typed ranged = refl
globals_typed (g ∷ gs) typed ranged =
    ap (λ (t : ValType). t ∷ map type_of (map first_global gs))
    (global_ranged g (All-head IsTyped g gs typed) (All-head RangedGlobal g gs ranged)).1
    ∙ ap (λ (ts : List ValType). g.val_type ∷ ts)
    (globals_typed gs (All-tail IsTyped g gs typed) (All-tail RangedGlobal g gs ranged))

module _ (m : Module) where
  nothing_in_table : (ls : List Limits) → All (InTable m) (empty_table ls)
  nothing_in_table [] = All-nil (InTable m)
  nothing_in_table (l ∷ ls) = All-replicate (InTable m) l.min None (record {})

  elements_in_table :
      (t : List (Option ℕ)) (es : List Element) → All (ValidElement m) es → All (InTable m) t
      → All (InTable m) (fold with_element t es)
  elements_in_table t [] valid ok = ok
  elements_in_table t (e ∷ es) valid ok =
      let here = All-head (ValidElement m) e es valid in
      let o = offset_of e.offset in
      let funcs = map some e.funcs in
      let after = drop (o + length funcs) t in
      elements_in_table (with_element t e) es (All-tail (ValidElement m) e es valid)
      (All-append (InTable m) (take o t) (funcs ++ after) (All-take (InTable m) o t ok)
      (All-append (InTable m) funcs after (All-map (InTable m) some e.funcs here.2)
      (All-drop (InTable m) (o + length funcs) t ok)))

  zero_pages :
      (ls : List Limits) (cap : ℕ) → All (ValidLimits standard_pages) ls → pages_of (zero_memory ls cap) < 2 ^ 32
  zero_pages [] cap valid = omega arith
  zero_pages (l ∷ ls) cap valid =
      let here = (All-head (ValidLimits standard_pages) l ls valid).0 in
      let n = length-replicate {A = ℕ} (l.min * page_bytes) 0 in
      omega (arith, here, n)

  zero_cap : (ls : List Limits) (cap : ℕ) → cap < 2 ^ 32 → (zero_memory ls cap).cap < 2 ^ 32
  zero_cap [] cap h = omega arith
  zero_cap (l ∷ ls) cap h = of_bound l.max
    where
      of_bound : (bound : Option ℕ) → most_pages bound cap < 2 ^ 32
      of_bound None = omega (arith, h)
      of_bound (Some max) = omega (arith, h)

  module _ (p : ProcessConfig) (valid : ValidModule m) (ranged : Ranged m) where
    pub first_typed : map type_of (first_store m p).globals ≡ map (λ g. g.val_type) m.globals
    first_typed = globals_typed m.globals valid.outside.globals ranged.globals

    pub first_in_table : All (InTable m) (first_store m p).table
    first_in_table =
        elements_in_table (empty_table m.tables) m.elements valid.outside.elements (nothing_in_table m.tables)

    pub first_ranged :
        p.cap < 2 ^ 32 → are_segments_inside (zero_memory m.memories p.cap) m.segments ≡ true
        → All (λ b. b < 256) (first_memory m p.cap).bytes → RangedStore (first_store m p)
    first_ranged few inside bytes =
        let n = fold_length (zero_memory m.memories p.cap) m.segments inside in
        let pages = zero_pages m.memories p.cap valid.outside.memories in
        let cap = zero_cap m.memories p.cap few in
        let same = fold_cap (zero_memory m.memories p.cap) m.segments in
        record {
          globals = globals_ranged m.globals valid.outside.globals ranged.globals;
          bytes = bytes;
          pages = subst (λ k. k / page_bytes < 2 ^ 32) (sym n) pages;
          cap = subst (λ k. k < 2 ^ 32) (sym same) cap;
        }
