-- The checker's steps for simple instructions are sound and exact.
use Rattle.std.proofs.Common.{◌≡◌, ℕ, ◌<◌, ◌≤◌, ◌^◌, nat_le, Bool, true, false, true≢false, ◌&&◌, inr, if◌then◌else◌, List, [], ◌∷◌, length, All, Option, Some, None, refl, sym, ap, subst, ◌∙◌, arith}
use Rattle.std.specs.Prelude.{slice_get}
use Rattle.std.proofs.lemmas.Bool.Decides.{nat_tests}
use Rattle.std.proofs.lemmas.List.Elements.{All-cons, All-nil, All-head, All-tail}
use Rattle.wasm_ast.specs.declared.values.ValType.{ValType}
use Rattle.wasm_ast.specs.declared.values.ValType.TheVariants.{I32}
use Rattle.wasm_ast.specs.declared.values.FuncType.{FuncType}
use Rattle.wasm_ast.specs.declared.instr.LocalOp.{LocalOp}
use Rattle.wasm_ast.specs.declared.instr.LocalOp.TheVariants as local
use Rattle.wasm_ast.specs.declared.instr.GlobalOp.{GlobalOp}
use Rattle.wasm_ast.specs.declared.instr.GlobalOp.TheVariants as global
use Rattle.wasm_ast.specs.declared.instr.Simple.{Simple}
use Rattle.wasm_ast.specs.declared.instr.Simple.TheVariants as instr
use Rattle.wasm_ast.specs.declared.module.Mutability.{Mutability}
use Rattle.wasm_ast.specs.declared.module.Mutability.TheVariants as mutability
use Rattle.wasm_ast.specs.declared.module.Global.{Global}
use Rattle.wasm_ast.specs.Types.{type_of, type_at, source_of, target_of}
use Rattle.wasm_ast.specs.Access.{load_type, load_bytes, store_type, store_bytes}
use Rattle.wasm_ast.specs.Limits.{are_all}
use Rattle.validator.specs.Typing.{Context, on_top, Replaces, LocalTyped, GlobalTyped, Accesses, SimpleTyped, IsLabel}
use Rattle.validator.specs.PlaceTypes.{Stack, IsOf, Matches}
use Rattle.validator.specs.declared.needs.Lack.{Lack}
use Rattle.validator.specs.Inside.Needs.{LacksOther, LacksTable}
use Rattle.validator.specs.Inside.Algorithm.{and_then, can_be, pop_any, with_types, replaced, nowhere, leaves, after_i32, drops, join, joins, joins_next, check_local, is_variable, check_global, takes_types, is_label, is_some_there, applies, branches, call_indirect, with_memory, access, check_simple}
use Rattle.wasm_ast.proofs.SameTypes.{same_types, themselves}
use Rattle.validator.proofs.StackMatching.{Sound, Exact, both, passed, passes, given, gives, can_be_of, of_can_be, pop_any_sound, pop_any_exact, some_type, some_types, replaced_sound, replaced_exact, Takes, leaves_sound, leaves_exact, AfterI32, after_i32_sound, after_i32_exact}

-- ---- under a condition, and with what an index names

guarded_sound : (b : Bool) (check : Stack → Option Stack) (P : List ValType → List ValType → Type 0)
    → Sound check P → Sound (λ s. if b then check s else None) (λ old new. (b ≡ true) × P old new)
guarded_sound b check P sound s e new h m =
    let found = given b (check s) e h in
    let rest = sound s e new found.1 m in
    (rest.0, rest.1, (found.0, rest.2))

guarded_exact : (b : Bool) (check : Stack → Option Stack) (P : List ValType → List ValType → Type 0)
    → Exact check P → Exact (λ s. if b then check s else None) (λ old new. (b ≡ true) × P old new)
guarded_exact b check P exact s old new m h =
    let rest = exact s old new m h.1 in
    (rest.0, gives b (check s) h.0 ∙ rest.1, rest.2)

pub named_sound :
    {A : Type 0} (o : Option A) (check : A → Stack → Option Stack) (P : A → List ValType → List ValType → Type 0)
    → ((x : A) → Sound (check x) (P x))
    → Sound (λ s. and_then o (λ x. check x s)) (λ old new. (x : A) × (o ≡ Some x) × P x old new)
named_sound o check P sound s e new h m =
    let found = passed o (λ x. check x s) e h in
    let rest = sound found.0 s e new found.2 m in
    (rest.0, rest.1, (found.0, found.1, rest.2))

pub named_exact :
    {A : Type 0} (o : Option A) (check : A → Stack → Option Stack) (P : A → List ValType → List ValType → Type 0)
    → ((x : A) → Exact (check x) (P x))
    → Exact (λ s. and_then o (λ x. check x s)) (λ old new. (x : A) × (o ≡ Some x) × P x old new)
named_exact o check P exact s old new m h =
    let rest = exact h.0 s old new m h.2 in
    (rest.0, passes o (λ x. check x s) h.0 h.1 ∙ rest.1, rest.2)

-- ---- drop and select

pub drops_sound : Sound drops (λ old new. (t : ValType) × Replaces (t ∷ []) [] old new)
drops_sound s e new h m =
    let found = passed (pop_any s.unreachable s.types) (λ p. Some (with_types s p.1)) e h in
    let after : with_types s found.0.1 ≡ e = cc in
    let any = some_type found.0.0 in (
      any.0 ∷ new,
      pop_any_sound s.unreachable s.types found.0.1 found.0.0 any.0 new found.1 any.1
          (subst (λ (s : Stack). Matches s new) (sym after) m),
      (any.0, (new, refl, refl)),
    )

pub drops_exact : Exact drops (λ old new. (t : ValType) × Replaces (t ∷ []) [] old new)
drops_exact s old new m h =
    let t = h.0 in
    let rest = h.1.0 in
    let found = pop_any_exact s.unreachable s.types t rest (subst (λ (ts : List ValType). Matches s ts) h.1.1 m) in
    let end = with_types s found.1 in (
      end,
      passes (pop_any s.unreachable s.types) (λ p. Some (with_types s p.1)) (found.0, found.1) found.2,
      subst (λ (ts : List ValType). Matches end ts) (sym h.1.2) found.4,
    )

join_sound : (x y z : Option ValType) (t : ValType) → join x y ≡ Some z → IsOf z t → IsOf x t × IsOf y t
join_sound None y z t h is = let e : y ≡ z = cc in (tt, subst (λ (o : Option ValType). IsOf o t) (sym e) is)
join_sound (Some u) y z t h is =
    let found = given (can_be u y) (Some (Some u)) z h in
    let e : Some u ≡ z = cc in
    let first : u ≡ t = subst (λ (o : Option ValType). IsOf o t) (sym e) is in
    (first, subst (λ (v : ValType). IsOf y v) first (can_be_of u y found.0))

join_exact :
    (x y : Option ValType) (t : ValType) → IsOf x t → IsOf y t → (z : Option ValType) × (join x y ≡ Some z) × IsOf z t
join_exact None y t one two = (y, refl, two)
join_exact (Some u) y t one two =
    (Some u, gives (can_be u y) (Some (Some u)) (of_can_be u y (subst (λ (v : ValType). IsOf y v) (sym one) two)), one)

-- two operands of a type are replaced by one
abbrev pub Joins : List ValType → List ValType → Type 0
Joins old new = (t : ValType) × (rest : List ValType) × (old ≡ t ∷ t ∷ rest) × (new ≡ t ∷ rest)

abbrev joins_with :
    Stack → Option ValType × List (Option ValType) → Option ValType × List (Option ValType) → Option Stack
joins_with s p q = and_then (join p.0 q.0) (λ t. Some (with_types s (t ∷ q.1)))

abbrev joins_to : Stack → Option ValType × List (Option ValType) → Option Stack
joins_to s p = joins_next p.0 (with_types s p.1)

pub joins_sound : Sound joins Joins
joins_sound s e new h m =
    let b = s.unreachable in
    let one = passed (pop_any b s.types) (joins_to s) e h in
    let two = passed (pop_any b one.0.1) (joins_with s one.0) e one.2 in
    let three = passed (join one.0.0 two.0.0) (λ t. Some (with_types s (t ∷ two.0.1))) e two.2 in
    let after : with_types s (three.0 ∷ two.0.1) ≡ e = cc in
    from one.0 two.0 three.0 one.1 two.1 three.1 new (subst (λ (s : Stack). Matches s new) (sym after) m)
  where
    from :
        (p q : Option ValType × List (Option ValType)) (z : Option ValType) → pop_any s.unreachable s.types ≡ Some p
        → pop_any s.unreachable p.1 ≡ Some q
        → join p.0 q.0 ≡ Some z → (new : List ValType) → Matches (with_types s (z ∷ q.1)) new
        → (old : List ValType) × Matches s old × Joins old new
    from p q z one two three [] m = absurd m
    from p q z one two three (t ∷ rest) m =
        let types = join_sound p.0 q.0 z t three m.0 in (
          t ∷ t ∷ rest,
          pop_any_sound s.unreachable s.types p.1 p.0 t (t ∷ rest) one types.0
              (pop_any_sound s.unreachable p.1 q.1 q.0 t rest two types.1 m.1),
          (t, rest, refl, refl),
        )

pub joins_exact : Exact joins Joins
joins_exact s old new m h =
    let b = s.unreachable in
    let t = h.0 in
    let rest = h.1 in
    let one = pop_any_exact b s.types t (t ∷ rest) (subst (λ (ts : List ValType). Matches s ts) h.2 m) in
    let two = pop_any_exact b one.1 t rest one.4 in
    let three = join_exact one.0 two.0 t one.3 two.3 in
    let end = with_types s (three.0 ∷ two.1) in (
      end,
      passes (pop_any b s.types) (joins_to s) (one.0, one.1) one.2
          ∙ (passes (pop_any b one.1) (joins_with s (one.0, one.1)) (two.0, two.1) two.2
          ∙ passes (join one.0 two.0) (λ t. Some (with_types s (t ∷ two.1))) three.0 three.1),
      subst (λ (ts : List ValType). Matches end ts) (sym h.3) (three.2, two.4),
    )

-- ---- labels

label_sound :
    (labels : List (List ValType)) (ts : List ValType) (k : ℕ) → is_label labels ts k ≡ true
    → slice_get labels k ≡ Some ts
label_sound labels ts k h = of (slice_get labels k) h
  where
    of : (o : Option (List ValType)) → takes_types ts o ≡ true → o ≡ Some ts
    of None h = cc
    of (Some us) h = ap Some (sym (same_types ts us h))

label_exact :
    (labels : List (List ValType)) (ts : List ValType) (k : ℕ) → slice_get labels k ≡ Some ts
    → is_label labels ts k ≡ true
label_exact labels ts k h = ap (takes_types ts) h ∙ themselves ts

labels_sound : (labels : List (List ValType)) (ts : List ValType) (ks : List ℕ) → are_all (is_label labels ts) ks ≡ true
    → All (IsLabel labels ts) ks
labels_sound labels ts [] h = All-nil (IsLabel labels ts)
labels_sound labels ts (k ∷ ks) h =
    let parts = both (is_label labels ts k) (are_all (is_label labels ts) ks) h in
    All-cons (IsLabel labels ts) k ks (label_sound labels ts k parts.0) (labels_sound labels ts ks parts.1)

labels_exact : (labels : List (List ValType)) (ts : List ValType) (ks : List ℕ) → All (IsLabel labels ts) ks
    → are_all (is_label labels ts) ks ≡ true
labels_exact labels ts [] h = refl
labels_exact labels ts (k ∷ ks) h =
    let first = label_exact labels ts k (All-head (IsLabel labels ts) k ks h) in
    let others = labels_exact labels ts ks (All-tail (IsLabel labels ts) k ks h) in
    ap (λ b. b && are_all (is_label labels ts) ks) first ∙ others

-- labels of which this one does not take the types of the last
pub table_lacks : (labels : List (List ValType)) (ks : List ℕ) (other k : ℕ) (ts : List ValType) (l : Lack)
    → slice_get labels other ≡ Some ts → are_all (is_label labels ts) ks ≡ false → is_label labels ts k ≡ false
    → LacksOther labels k l → LacksTable labels ks other l
table_lacks labels ks other k ts l is some this lacks =
    inr (
      ts,
      k,
      is,
      λ all. true≢false (sym (labels_exact labels ts ks all) ∙ some),
      λ takes. true≢false (sym (label_exact labels ts k takes) ∙ this),
      lacks,
    )

-- ---- accesses

there_sound : {A : Type 0} (xs : List A) → is_some_there xs ≡ true → 0 < length xs
there_sound xs h = grind (arith, nat_tests)

there_exact : {A : Type 0} (xs : List A) → 0 < length xs → is_some_there xs ≡ true
there_exact xs h = grind (arith, nat_tests)

at_most : (a b : ℕ) → nat_le a b ≡ true → a ≤ b
at_most a b h = grind (arith, nat_tests)

within : (a b : ℕ) → a ≤ b → nat_le a b ≡ true
within a b h = grind (arith, nat_tests)

abbrev accesses : Context → (align bytes : ℕ) → Bool
accesses c align bytes = is_some_there c.memories && nat_le (2 ^ align) bytes

accesses_sound : (c : Context) (align bytes : ℕ) → accesses c align bytes ≡ true → Accesses c align bytes
accesses_sound c align bytes h =
    let parts = both (is_some_there c.memories) (nat_le (2 ^ align) bytes) h in
    (there_sound c.memories parts.0, at_most (2 ^ align) bytes parts.1)

accesses_exact : (c : Context) (align bytes : ℕ) → Accesses c align bytes → accesses c align bytes ≡ true
accesses_exact c align bytes h =
    ap (λ b. b && nat_le (2 ^ align) bytes) (there_exact c.memories h.0) ∙ within (2 ^ align) bytes h.1

-- ---- all simple instructions

local_sound : (op : LocalOp) (t : ValType) → Sound (check_local op t) (LocalTyped op t)
local_sound local.Get t = replaced_sound [] (t ∷ [])
local_sound local.Set t = replaced_sound (t ∷ []) []
local_sound local.Tee t = replaced_sound (t ∷ []) (t ∷ [])

local_exact : (op : LocalOp) (t : ValType) → Exact (check_local op t) (LocalTyped op t)
local_exact local.Get t = replaced_exact [] (t ∷ [])
local_exact local.Set t = replaced_exact (t ∷ []) []
local_exact local.Tee t = replaced_exact (t ∷ []) (t ∷ [])

variable_sound : (v : Mutability) → is_variable v ≡ true → v ≡ mutability.Var
variable_sound mutability.Const h = cc
variable_sound mutability.Var h = refl

variable_exact : (v : Mutability) → v ≡ mutability.Var → is_variable v ≡ true
variable_exact v h = ap is_variable h

global_sound : (op : GlobalOp) (g : Global) → Sound (check_global op g) (GlobalTyped op g)
global_sound global.Get g = replaced_sound [] (g.val_type ∷ [])
global_sound global.Set g = λ s e new h m.
    let found =
    guarded_sound (is_variable g.mutability) (replaced (g.val_type ∷ []) []) (Replaces (g.val_type ∷ []) [])
    (replaced_sound (g.val_type ∷ []) []) s e new h m in
    (found.0, found.1, (variable_sound g.mutability found.2.0, found.2.1))

global_exact : (op : GlobalOp) (g : Global) → Exact (check_global op g) (GlobalTyped op g)
global_exact global.Get g = replaced_exact [] (g.val_type ∷ [])
global_exact global.Set g = λ s old new m h.
    guarded_exact (is_variable g.mutability) (replaced (g.val_type ∷ []) []) (Replaces (g.val_type ∷ []) [])
    (replaced_exact (g.val_type ∷ []) []) s old new m
    (variable_exact g.mutability h.0, h.1)

branch_if_sound : (ts : List ValType) → Sound (after_i32 (replaced ts ts)) (AfterI32 (Replaces ts ts))
branch_if_sound ts = after_i32_sound (replaced ts ts) (Replaces ts ts) (replaced_sound ts ts)

branch_if_exact : (ts : List ValType) → Exact (after_i32 (replaced ts ts)) (AfterI32 (Replaces ts ts))
branch_if_exact ts = after_i32_exact (replaced ts ts) (Replaces ts ts) (replaced_exact ts ts)

abbrev Branches : Context → List ℕ → List ValType → (old new : List ValType) → Type 0
Branches c labels ts old new = (are_all (is_label c.labels ts) labels ≡ true) × AfterI32 (Takes ts) old new

branches_sound :
    (c : Context) (labels : List ℕ) (ts : List ValType) → Sound (branches c.labels labels ts) (Branches c labels ts)
branches_sound c labels ts =
    guarded_sound (are_all (is_label c.labels ts) labels) (after_i32 (leaves ts)) (AfterI32 (Takes ts))
    (after_i32_sound (leaves ts) (Takes ts) (leaves_sound ts))

branches_exact :
    (c : Context) (labels : List ℕ) (ts : List ValType) → Exact (branches c.labels labels ts) (Branches c labels ts)
branches_exact c labels ts =
    guarded_exact (are_all (is_label c.labels ts) labels) (after_i32 (leaves ts)) (AfterI32 (Takes ts))
    (after_i32_exact (leaves ts) (Takes ts) (leaves_exact ts))

abbrev Indirect : FuncType → (old new : List ValType) → Type 0
Indirect t = AfterI32 (Replaces t.params t.results)

abbrev indirect : Context → ℕ → Stack → Option Stack
indirect c type s = and_then (slice_get c.types type) (λ t. after_i32 (applies t) s)

abbrev IndirectOf : Context → ℕ → (old new : List ValType) → Type 0
IndirectOf c type old new = (t : FuncType) × (slice_get c.types type ≡ Some t) × Indirect t old new

abbrev IndirectThere : Context → ℕ → (old new : List ValType) → Type 0
IndirectThere c type old new = (is_some_there c.tables ≡ true) × IndirectOf c type old new

indirect_sound : (c : Context) (type : ℕ) → Sound (call_indirect c.types c.tables type) (IndirectThere c type)
indirect_sound c type =
    guarded_sound (is_some_there c.tables) (indirect c type) (IndirectOf c type)
    (named_sound (slice_get c.types type) (λ t. after_i32 (applies t)) Indirect
    (λ t. after_i32_sound (applies t) (Replaces t.params t.results) (replaced_sound t.params t.results)))

indirect_exact : (c : Context) (type : ℕ) → Exact (call_indirect c.types c.tables type) (IndirectThere c type)
indirect_exact c type =
    guarded_exact (is_some_there c.tables) (indirect c type) (IndirectOf c type)
    (named_exact (slice_get c.types type) (λ t. after_i32 (applies t)) Indirect
    (λ t. after_i32_exact (applies t) (Replaces t.params t.results) (replaced_exact t.params t.results)))

accessing_sound : (c : Context) (align bytes : ℕ) (takes gives : List ValType)
    → Sound (access c.memories align bytes takes gives)
    (λ old new. Accesses c align bytes × Replaces takes gives old new)
accessing_sound c align bytes takes gives s e new h m =
    let found =
    guarded_sound (accesses c align bytes) (replaced takes gives) (Replaces takes gives)
    (replaced_sound takes gives) s e new h m in
    (found.0, found.1, (accesses_sound c align bytes found.2.0, found.2.1))

accessing_exact : (c : Context) (align bytes : ℕ) (takes gives : List ValType)
    → Exact (access c.memories align bytes takes gives)
    (λ old new. Accesses c align bytes × Replaces takes gives old new)
accessing_exact c align bytes takes gives s old new m h =
    guarded_exact (accesses c align bytes) (replaced takes gives) (Replaces takes gives) (replaced_exact takes gives) s
    old new m (accesses_exact c align bytes h.0, h.1)

memory_op_sound : (c : Context) (takes gives : List ValType)
    → Sound (with_memory c.memories takes gives) (λ old new. (0 < length c.memories) × Replaces takes gives old new)
memory_op_sound c takes gives s e new h m =
    let found =
    guarded_sound (is_some_there c.memories) (replaced takes gives) (Replaces takes gives)
    (replaced_sound takes gives) s e new h m in
    (found.0, found.1, (there_sound c.memories found.2.0, found.2.1))

memory_op_exact : (c : Context) (takes gives : List ValType)
    → Exact (with_memory c.memories takes gives) (λ old new. (0 < length c.memories) × Replaces takes gives old new)
memory_op_exact c takes gives s old new m h =
    guarded_exact (is_some_there c.memories) (replaced takes gives) (Replaces takes gives) (replaced_exact takes gives)
    s old new m (there_exact c.memories h.0, h.1)

pub simple_sound : (c : Context) (i : Simple) → Sound (check_simple c i) (SimpleTyped c i)
simple_sound c instr.Unreachable s e new h m = let any = some_types s.unreachable s.types in (any.0, any.1, tt)
simple_sound c instr.Nop s e new h m =
    let same : s ≡ e = cc in (new, subst (λ (s : Stack). Matches s new) (sym same) m, refl)
simple_sound c (instr.Br label) s e new h m =
    let found = named_sound (slice_get c.labels label) leaves Takes leaves_sound s e new h m in
    (found.0, found.1, (found.2.0, found.2.2.0, found.2.1, found.2.2.1))
simple_sound c (instr.BrIf label) s e new h m =
    let found =
    named_sound (slice_get c.labels label) (λ ts. after_i32 (replaced ts ts)) (λ ts. AfterI32 (Replaces ts ts))
    branch_if_sound s e new h m in
    let p = found.2.2 in
    (found.0, found.1, (found.2.0, p.2.0, found.2.1, p.1 ∙ ap (λ (ts : List ValType). I32 ∷ ts) p.2.1, p.2.2))
simple_sound c (instr.BrTable other labels) s e new h m =
    let found =
    named_sound (slice_get c.labels other) (branches c.labels labels) (Branches c labels)
    (branches_sound c labels) s e new h m in
    let p = found.2.2 in (
      found.0,
      found.1,
      (
        found.2.0,
        p.1.2.0,
        labels_sound c.labels found.2.0 labels p.0,
        found.2.1,
        p.1.1 ∙ ap (λ (ts : List ValType). I32 ∷ ts) p.1.2.1,
      ),
    )
simple_sound c instr.Return s e new h m = leaves_sound c.results s e new h m
simple_sound c (instr.Call func) s e new h m =
    named_sound (type_at c.funcs func) applies (λ (t : FuncType). Replaces t.params t.results)
    (λ t. replaced_sound t.params t.results) s e new h m
simple_sound c (instr.CallIndirect type) s e new h m =
    let found = indirect_sound c type s e new h m in
    let p = found.2.1 in
    (found.0, found.1, (p.0, p.2.0, there_sound c.tables found.2.0, p.1, p.2.1, p.2.2))
simple_sound c instr.Drop s e new h m = drops_sound s e new h m
simple_sound c instr.Select s e new h m =
    let found = after_i32_sound joins Joins joins_sound s e new h m in
    let p = found.2 in
    (found.0, found.1, (p.2.0, (p.2.1, p.1 ∙ ap (λ (ts : List ValType). I32 ∷ ts) p.2.2, p.2.3)))
simple_sound c (instr.Local op index) s e new h m =
    named_sound (slice_get c.locals index) (check_local op) (LocalTyped op) (local_sound op) s e new h m
simple_sound c (instr.Global op index) s e new h m =
    named_sound (slice_get c.globals index) (check_global op) (GlobalTyped op) (global_sound op) s e new h m
simple_sound c (instr.Load op at) s e new h m =
    accessing_sound c at.align (load_bytes op) (I32 ∷ []) (load_type op ∷ []) s e new h m
simple_sound c (instr.Store op at) s e new h m =
    accessing_sound c at.align (store_bytes op) (I32 ∷ store_type op ∷ []) [] s e new h m
simple_sound c instr.MemorySize s e new h m = memory_op_sound c [] (I32 ∷ []) s e new h m
simple_sound c instr.MemoryGrow s e new h m = memory_op_sound c (I32 ∷ []) (I32 ∷ []) s e new h m
simple_sound c (instr.Const value) s e new h m = replaced_sound [] (type_of value ∷ []) s e new h m
simple_sound c (instr.Unary t op) s e new h m = replaced_sound (t ∷ []) (t ∷ []) s e new h m
simple_sound c (instr.Binary t op) s e new h m = replaced_sound (t ∷ t ∷ []) (t ∷ []) s e new h m
simple_sound c (instr.Test t op) s e new h m = replaced_sound (t ∷ []) (I32 ∷ []) s e new h m
simple_sound c (instr.Compare t op) s e new h m = replaced_sound (t ∷ t ∷ []) (I32 ∷ []) s e new h m
simple_sound c (instr.Convert op) s e new h m = replaced_sound (source_of op ∷ []) (target_of op ∷ []) s e new h m

pub simple_exact : (c : Context) (i : Simple) → Exact (check_simple c i) (SimpleTyped c i)
simple_exact c instr.Unreachable s old new m h = (nowhere, refl, tt)
simple_exact c instr.Nop s old new m h = (s, refl, subst (λ (ts : List ValType). Matches s ts) h m)
simple_exact c (instr.Br label) s old new m h =
    named_exact (slice_get c.labels label) leaves Takes leaves_exact s old new m (h.0, h.2, (h.1, h.3))
simple_exact c (instr.BrIf label) s old new m h =
    named_exact (slice_get c.labels label) (λ ts. after_i32 (replaced ts ts)) (λ ts. AfterI32 (Replaces ts ts))
    branch_if_exact s old new m
    (h.0, h.2, (on_top h.0 h.1, h.3, (h.1, refl, h.4)))
simple_exact c (instr.BrTable other labels) s old new m h =
    named_exact (slice_get c.labels other) (branches c.labels labels) (Branches c labels)
    (branches_exact c labels) s old new m
    (h.0, h.3, (labels_exact c.labels h.0 labels h.2, (on_top h.0 h.1, h.4, (h.1, refl))))
simple_exact c instr.Return s old new m h = leaves_exact c.results s old new m h
simple_exact c (instr.Call func) s old new m h =
    named_exact (type_at c.funcs func) applies (λ (t : FuncType). Replaces t.params t.results)
    (λ t. replaced_exact t.params t.results) s old new m h
simple_exact c (instr.CallIndirect type) s old new m h =
    indirect_exact c type s old new m (there_exact c.tables h.2, (h.0, h.3, (h.1, h.4, h.5)))
simple_exact c instr.Drop s old new m h = drops_exact s old new m h
simple_exact c instr.Select s old new m h =
    after_i32_exact joins Joins joins_exact s old new m (h.0 ∷ h.0 ∷ h.1.0, h.1.1, (h.0, h.1.0, refl, h.1.2))
simple_exact c (instr.Local op index) s old new m h =
    named_exact (slice_get c.locals index) (check_local op) (LocalTyped op) (local_exact op) s old new m h
simple_exact c (instr.Global op index) s old new m h =
    named_exact (slice_get c.globals index) (check_global op) (GlobalTyped op) (global_exact op) s old new m h
simple_exact c (instr.Load op at) s old new m h =
    accessing_exact c at.align (load_bytes op) (I32 ∷ []) (load_type op ∷ []) s old new m h
simple_exact c (instr.Store op at) s old new m h =
    accessing_exact c at.align (store_bytes op) (I32 ∷ store_type op ∷ []) [] s old new m h
simple_exact c instr.MemorySize s old new m h = memory_op_exact c [] (I32 ∷ []) s old new m h
simple_exact c instr.MemoryGrow s old new m h = memory_op_exact c (I32 ∷ []) (I32 ∷ []) s old new m h
simple_exact c (instr.Const value) s old new m h = replaced_exact [] (type_of value ∷ []) s old new m h
simple_exact c (instr.Unary t op) s old new m h = replaced_exact (t ∷ []) (t ∷ []) s old new m h
simple_exact c (instr.Binary t op) s old new m h = replaced_exact (t ∷ t ∷ []) (t ∷ []) s old new m h
simple_exact c (instr.Test t op) s old new m h = replaced_exact (t ∷ []) (I32 ∷ []) s old new m h
simple_exact c (instr.Compare t op) s old new m h = replaced_exact (t ∷ t ∷ []) (I32 ∷ []) s old new m h
simple_exact c (instr.Convert op) s old new m h = replaced_exact (source_of op ∷ []) (target_of op ∷ []) s old new m h
