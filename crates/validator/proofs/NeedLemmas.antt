-- What is said of an instruction's needs is so: what it lacks, and which operands it takes.
use Rattle.std.proofs.Common.{◌≡◌, ℕ, ◌<◌, inl, inr, Bool, true, false, List, [], ◌∷◌, length, All, reverse, Option, Some, None, refl, sym, ap, subst, ◌∙◌, arith}
use Rattle.std.specs.Prelude.{◌↔◌, slice_get}
use Rattle.std.proofs.lemmas.List.{reverse-reverse}
use Rattle.wasm_ast.specs.declared.values.ValType.{ValType}
use Rattle.wasm_ast.specs.declared.values.ValType.TheVariants.{I32}
use Rattle.wasm_ast.specs.declared.values.FuncType.{FuncType}
use Rattle.wasm_ast.specs.declared.instr.GlobalOp.{GlobalOp}
use Rattle.wasm_ast.specs.declared.instr.GlobalOp.TheVariants as global
use Rattle.wasm_ast.specs.declared.instr.Simple.{Simple}
use Rattle.wasm_ast.specs.declared.instr.Simple.TheVariants as instr
use Rattle.wasm_ast.specs.declared.module.Func.{Func}
use Rattle.wasm_ast.specs.declared.module.Global.{Global}
use Rattle.wasm_ast.specs.declared.module.Module.{Module}
use Rattle.wasm_ast.specs.Syntax.{Ops, simple, stop, next}
use Rattle.wasm_ast.specs.Types.{type_at}
use Rattle.wasm_ast.specs.Access.{load_bytes, store_bytes}
use Rattle.validator.specs.declared.needs.Lack.{Lack}
use Rattle.validator.specs.declared.needs.Needs.{Needs}
use Rattle.validator.specs.declared.needs.Needs.TheVariants as needs
use Rattle.validator.specs.declared.needs.Taken.{Taken}
use Rattle.validator.specs.declared.needs.Taken.TheVariants as taken
use Rattle.validator.specs.Typing.{Context, on_top, Replaces, GlobalTyped, Accesses, IsLabel, SimpleTyped}
use Rattle.validator.specs.PlaceTypes.{Stack, IsOwn}
use Rattle.validator.specs.Inside.Needs.{LacksTable, LacksIndirect, LacksGlobal, LacksAccess, Lacks, AreOnTop, IsThereFor, GoesOn}
use Rattle.validator.specs.Inside.Algorithm.{and_then, replaced, leaves, after_i32, drops, joins, start, check_simple, check_ops}
use Rattle.validator.specs.Inside.Effects.{step_of, Does, AreTaken, Tells}
use Rattle.validator.proofs.StackMatching.{Sound, Exact, passes, some_types, replaced_sound, replaced_exact, Takes, leaves_sound, leaves_exact, AfterI32, after_i32_sound, after_i32_exact}
use Rattle.validator.proofs.SimpleExact.{drops_sound, drops_exact, Joins, joins_sound, joins_exact, simple_sound}
use Rattle.validator.proofs.SequenceExact.{start_matches, start_is}
use Rattle.validator.proofs.PlacesOfModules.{HasType}
use Rattle.validator.proofs.UncheckedTypes.{none_some, inside_labels, after_exact_there, after_none_there}

-- ---- what an instruction lacks has no typing

table_untyped : (c : Context) (labels : List ℕ) (other : ℕ) (l : Lack) → LacksTable c.labels labels other l
    → (ts : List ValType) → All (IsLabel c.labels ts) labels → IsLabel c.labels ts other → ⊥
table_untyped c labels other l (inl h) ts all is = none_some (slice_get c.labels other) ts h.1 is
table_untyped c labels other l (inr h) ts all is =
    let two : Some ts ≡ Some h.0 = sym is ∙ h.2 in
    let one : ts ≡ h.0 = cc in
    h.3 (subst (λ (us : List ValType). All (IsLabel c.labels us) labels) one all)

none_there : {A : Type 0} (xs : List A) → length xs ≡ 0 → 0 < length xs → ⊥
none_there xs none some = omega (arith, none, some)

indirect_untyped : (c : Context) (type : ℕ) (l : Lack) → LacksIndirect c.types c.tables type l → (t : FuncType)
    → 0 < length c.tables → slice_get c.types type ≡ Some t → ⊥
indirect_untyped c type l (inl h) t there is = none_there c.tables h.1 there
indirect_untyped c type l (inr h) t there is = none_some (slice_get c.types type) t h.1 is

global_untyped : (op : GlobalOp) (o : Option Global) (l : Lack) (g : Global) (old new : List ValType)
    → LacksGlobal op o l → o ≡ Some g → GlobalTyped op g old new → ⊥
global_untyped global.Get None l g old new h e typed = cc
global_untyped global.Set None l g old new h e typed = cc
global_untyped global.Get (Some x) l g old new h e typed = absurd h
global_untyped global.Set (Some x) l g old new h e typed =
    let constant = h.1 in
    let variable = typed.0 in
    cc

access_untyped : (c : Context) (align bytes : ℕ) (l : Lack) → LacksAccess c.memories align bytes l
    → Accesses c align bytes → ⊥
access_untyped c align bytes l (inl h) typed = none_there c.memories h.1 typed.0
access_untyped c align bytes l (inr h) typed = omega (arith, h.1, typed.1)

lacks_untyped : (c : Context) (i : Simple) (l : Lack) → Lacks c i l → (old new : List ValType)
    → SimpleTyped c i old new → ⊥
lacks_untyped c instr.Unreachable l h old new t = absurd h
lacks_untyped c instr.Nop l h old new t = absurd h
lacks_untyped c (instr.Br label) l h old new t = none_some (slice_get c.labels label) t.0 h.1 t.2
lacks_untyped c (instr.BrIf label) l h old new t = none_some (slice_get c.labels label) t.0 h.1 t.2
lacks_untyped c (instr.BrTable other labels) l h old new t = table_untyped c labels other l h t.0 t.2 t.3
lacks_untyped c instr.Return l h old new t = absurd h
lacks_untyped c (instr.Call func) l h old new t = none_some (type_at c.funcs func) t.0 h.1 t.1
lacks_untyped c (instr.CallIndirect type) l h old new t = indirect_untyped c type l h t.0 t.2 t.3
lacks_untyped c instr.Drop l h old new t = absurd h
lacks_untyped c instr.Select l h old new t = absurd h
lacks_untyped c (instr.Local op index) l h old new t = none_some (slice_get c.locals index) t.0 h.1 t.1
lacks_untyped c (instr.Global op index) l h old new t =
    global_untyped op (slice_get c.globals index) l t.0 old new h t.1 t.2
lacks_untyped c (instr.Load op at) l h old new t = access_untyped c at.align (load_bytes op) l h t.0
lacks_untyped c (instr.Store op at) l h old new t = access_untyped c at.align (store_bytes op) l h t.0
lacks_untyped c instr.MemorySize l h old new t = none_there c.memories h.1 t.0
lacks_untyped c instr.MemoryGrow l h old new t = none_there c.memories h.1 t.0
lacks_untyped c (instr.Const value) l h old new t = absurd h
lacks_untyped c (instr.Unary u op) l h old new t = absurd h
lacks_untyped c (instr.Binary u op) l h old new t = absurd h
lacks_untyped c (instr.Test u op) l h old new t = absurd h
lacks_untyped c (instr.Compare u op) l h old new t = absurd h
lacks_untyped c (instr.Convert op) l h old new t = absurd h

never_some : (o : Option Stack) → ((e : Stack) → o ≡ Some e → ⊥) → o ≡ None
never_some None f = refl
never_some (Some e) f = absurd (f e refl)

-- nor is it checked with success
pub lacks_none : (c : Context) (i : Simple) (l : Lack) (s : Stack) → Lacks c i l → check_simple c i s ≡ None
lacks_none c i l s h =
    never_some (check_simple c i s)
    (λ e is.
    let any = some_types e.unreachable e.types in
    let found = simple_sound c i s e any.0 is any.1 in
    lacks_untyped c i l h found.0 any.0 found.2)

-- ---- the operands that are taken

-- a check passes where these operands alone are known
abbrev Accepts : (Stack → Option Stack) → List ValType → Type 0
Accepts check params = (e : Stack) × (check (start params) ≡ Some e)

-- it does where there is a typing
accepts : (check : Stack → Option Stack) (P : List ValType → List ValType → Type 0) (Q : List ValType → Type 0)
    → Sound check P → Exact check P → ((old : List ValType) → Q old → (new : List ValType) × P old new)
    → ((old new : List ValType) → P old new → Q old) → (params : List ValType)
    → Q (reverse params) ↔ Accepts check params
accepts check P Q sound exact to from params = (
  λ there.
      let typed = to (reverse params) there in
      let found = exact (start params) (reverse params) typed.0 (start_matches params) typed.1 in
      (found.0, found.1),
  λ passed.
      let e = passed.0 in
      let any = some_types e.unreachable e.types in
      let found = sound (start params) e any.0 passed.1 any.1 in
      from (reverse params) any.0
      (subst (λ (old : List ValType). P old any.0) (start_is params found.0 found.1) found.2),
)

replaced_accepts : (takes gives params : List ValType)
    → AreOnTop takes false (reverse params) ↔ Accepts (replaced takes gives) params
replaced_accepts takes gives =
    accepts (replaced takes gives) (Replaces takes gives) (AreOnTop takes false) (replaced_sound takes gives)
    (replaced_exact takes gives) (λ old h. (on_top gives h.0, (h.0, h.1, refl))) (λ old new h. (h.0, h.1))

replaced_after : (takes gives params : List ValType)
    → AreOnTop takes true (reverse params) ↔ Accepts (after_i32 (replaced takes gives)) params
replaced_after takes gives =
    accepts (after_i32 (replaced takes gives)) (AfterI32 (Replaces takes gives)) (AreOnTop takes true)
    (after_i32_sound (replaced takes gives) (Replaces takes gives) (replaced_sound takes gives))
    (after_i32_exact (replaced takes gives) (Replaces takes gives) (replaced_exact takes gives))
    (λ old h. (on_top gives h.0, (on_top takes h.0, h.1, (h.0, refl, refl))))
    (λ old new h. (h.2.0, h.1 ∙ ap (λ (ts : List ValType). I32 ∷ ts) h.2.1))

leaves_accepts : (takes params : List ValType) → AreOnTop takes false (reverse params) ↔ Accepts (leaves takes) params
leaves_accepts takes =
    accepts (leaves takes) (Takes takes) (AreOnTop takes false) (leaves_sound takes) (leaves_exact takes)
    (λ old h. ([], (h.0, h.1))) (λ old new h. (h.0, h.1))

leaves_after : (takes params : List ValType)
    → AreOnTop takes true (reverse params) ↔ Accepts (after_i32 (leaves takes)) params
leaves_after takes =
    accepts (after_i32 (leaves takes)) (AfterI32 (Takes takes)) (AreOnTop takes true)
    (after_i32_sound (leaves takes) (Takes takes) (leaves_sound takes))
    (after_i32_exact (leaves takes) (Takes takes) (leaves_exact takes))
    (λ old h. ([], (on_top takes h.0, h.1, (h.0, refl))))
    (λ old new h. (h.2.0, h.1 ∙ ap (λ (ts : List ValType). I32 ∷ ts) h.2.1))

drops_accepts : (params : List ValType) → IsThereFor taken.Any (reverse params) ↔ Accepts drops params
drops_accepts =
    accepts drops (λ old new. (t : ValType) × Replaces (t ∷ []) [] old new) (IsThereFor taken.Any) drops_sound
    drops_exact (λ old h. (h.1, (h.0, (h.1, h.2, refl)))) (λ old new h. (h.0, h.1.0, h.1.1))

joins_accepts : (params : List ValType) → IsThereFor taken.Two (reverse params) ↔ Accepts (after_i32 joins) params
joins_accepts =
    accepts (after_i32 joins) (AfterI32 Joins) (IsThereFor taken.Two) (after_i32_sound joins Joins joins_sound)
    (after_i32_exact joins Joins joins_exact)
    (λ old h. (h.0 ∷ h.1, (h.0 ∷ h.0 ∷ h.1, h.2, (h.0, h.1, refl, refl))))
    (λ old new h. (h.2.0, h.2.1, h.1 ∙ ap (λ (ts : List ValType). I32 ∷ ts) h.2.2))

listed : (ts : List ValType) (i32 : Bool) (r : Taken) → AreTaken ts i32 r → (P : Type 0) (old : List ValType)
    → AreOnTop ts i32 old ↔ P → IsThereFor r old ↔ P
listed ts i32 (taken.Types us also) h P old iff = (
  λ there.
      iff.0
      (subst (λ (vs : List ValType). AreOnTop vs i32 old) h.0
      (subst (λ (b : Bool). AreOnTop us.now b old) h.1 there)),
  λ p.
      subst (λ (b : Bool). AreOnTop us.now b old) (sym h.1)
      (subst (λ (vs : List ValType). AreOnTop vs i32 old) (sym h.0) (iff.1 p)),
)
listed ts i32 taken.Any h P old iff = absurd h
listed ts i32 taken.Two h P old iff = absurd h

told : (n : Needs) (r : Taken) → Tells n r → (ts : List ValType)
    → IsThereFor r (reverse ts) ↔ Accepts (step_of n) ts
told needs.Nothing r h ts =
    listed [] false r h (Accepts (step_of needs.Nothing) ts) (reverse ts)
    (λ there. (start ts, refl), λ passed. (reverse ts, refl))
told (needs.Gives t) r h ts =
    listed [] false r h (Accepts (replaced [] (t ∷ [])) ts) (reverse ts) (replaced_accepts [] (t ∷ []) ts)
told (needs.Takes t) r h ts =
    listed (t ∷ []) false r h (Accepts (replaced (t ∷ []) []) ts) (reverse ts) (replaced_accepts (t ∷ []) [] ts)
told (needs.Converts t u) r h ts =
    listed (t ∷ []) false r h (Accepts (replaced (t ∷ []) (u ∷ [])) ts) (reverse ts)
    (replaced_accepts (t ∷ []) (u ∷ []) ts)
told (needs.Combines t u) r h ts =
    listed (t ∷ t ∷ []) false r h (Accepts (replaced (t ∷ t ∷ []) (u ∷ [])) ts) (reverse ts)
    (replaced_accepts (t ∷ t ∷ []) (u ∷ []) ts)
told (needs.TakesTwo t u) r h ts =
    listed (t ∷ u ∷ []) false r h (Accepts (replaced (t ∷ u ∷ []) []) ts) (reverse ts)
    (replaced_accepts (t ∷ u ∷ []) [] ts)
told (needs.Replaces b) r h ts =
    listed b.params false r h (Accepts (replaced b.params b.results) ts) (reverse ts)
    (replaced_accepts b.params b.results ts)
told (needs.ReplacesAfterI32 b) r h ts =
    listed b.params true r h (Accepts (after_i32 (replaced b.params b.results)) ts) (reverse ts)
    (replaced_after b.params b.results ts)
told (needs.Leaves us) r h ts =
    listed us false r h (Accepts (leaves us) ts) (reverse ts) (leaves_accepts us ts)
told (needs.LeavesAfterI32 us) r h ts =
    listed us true r h (Accepts (after_i32 (leaves us)) ts) (reverse ts) (leaves_after us ts)
told needs.Drop r h ts =
    subst (λ (r : Taken). IsThereFor r (reverse ts) ↔ Accepts drops ts) (sym h) (drops_accepts ts)
told needs.Select r h ts =
    subst (λ (r : Taken). IsThereFor r (reverse ts) ↔ Accepts (after_i32 joins) ts) (sym h) (joins_accepts ts)

-- ---- in a function of a module that is given in other words

some_or : (o : Option Stack) → (o ≡ None → ⊥) → (e : Stack) × (o ≡ Some e)
some_or None f = absurd (f refl)
some_or (Some e) f = (e, refl)

module _ (n l m : Module) (func : ℕ) (f : Func) (t : FuncType) (one : n ≡ l) (two : l ≡ m) (own : IsOwn l func f)
    (is : HasType l f t) (labels : List (List ValType)) (i : Simple) where
  abbrev c : Context
  c = inside_labels n f t labels

  abbrev os : Ops
  os = next (simple i) stop

  taken_on : (need : Needs) (r : Taken) → Does need (check_simple c i) → Tells need r → (ts : List ValType)
      → IsThereFor r (reverse ts) ↔ GoesOn m func labels i (reverse ts)
  taken_on need r does tells ts = (
    λ there.
        let passed = (told need r tells ts).0 there in
        let e = passed.0 in
        let any = some_types e.unreachable e.types in
        let end = passes (check_simple c i (start ts)) (check_ops c stop) e (does (start ts) ∙ passed.1) in
        (any.0, (after_exact_there n l m func f t one two own is labels os ts e end any.0).0 any.1),
    λ goes.
        let end =
        some_or (check_simple c i (start ts))
        (λ none.
        after_none_there n l m func f t one two own is labels os ts
        (ap (λ (o : Option Stack). and_then o (check_ops c stop)) none) goes.0 goes.1) in
        (told need r tells ts).1 (end.0, sym (does (start ts)) ∙ end.1),
  )

  pub taken_there : (need : Needs) (r : Taken) → Does need (check_simple c i) → Tells need r → (old : List ValType)
      → IsThereFor r old ↔ GoesOn m func labels i old
  taken_there need r does tells old =
      subst (λ (ts : List ValType). IsThereFor r ts ↔ GoesOn m func labels i ts) (reverse-reverse old)
      (taken_on need r does tells (reverse old))
