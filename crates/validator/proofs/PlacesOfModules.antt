-- Places of a valid module's functions: what the algorithm knows there.
use Rattle.std.proofs.Common.{◌≡◌, map, false, ℕ, zero, suc, ◌-◌, ◌<◌, true, nat_lt, is_some, List, [], ◌∷◌, length, reverse, All, Option, Some, None, ◌≢◌, refl, sym, ap, subst, ◌∙◌, arith}
use Rattle.std.specs.Prelude.{slice_get, ◌↔◌}
use Rattle.std.proofs.lemmas.Bool.Decides.{nat_tests}
use Rattle.std.proofs.lemmas.List.Elements.{All-head, All-tail}
use Rattle.std.specs.List.{AllZip}
use Rattle.wasm_ast.specs.declared.values.ValType.{ValType}
use Rattle.wasm_ast.specs.declared.values.FuncType.{FuncType}
use Rattle.wasm_ast.specs.declared.module.Func.{Func}
use Rattle.wasm_ast.specs.declared.module.Module.{Module}
use Rattle.wasm_ast.specs.Syntax.{Op, Ops, ops_count, ops_at}
use Rattle.wasm_ast.proofs.PlaceLemmas.{ops_counted}
use Rattle.validator.specs.Typing.{body_context, ValidBody, ValidModule}
use Rattle.validator.specs.PlaceTypes.{Point, Reaches, IsOwn, IsPlace, ReachesAt, PassesAt, Known, Stack, MatchTypes, MatchPoint, Matches}
use Rattle.validator.specs.Inside.Algorithm.{knowns, start}
use Rattle.validator.specs.Inside.PlaceWalk.{ops_known}
use Rattle.validator.proofs.SequenceExact.{start_matches, start_is}
use Rattle.validator.proofs.PlaceExact.{ops_known_sound, ops_known_exact, passes_reaches, typed_passes}

element : {X : Type 0} (P : X → Type 0) (xs : List X) (k : ℕ) (x : X) → All P xs → slice_get xs k ≡ Some x → P x
element P [] k x h e = cc
element P (y ∷ ys) zero x h e = let same : y ≡ x = cc in subst P same (All-head P y ys h)
element P (y ∷ ys) (suc k) x h e = element P ys k x (All-tail P y ys h) e

-- the function at an index of a valid module's own has a body that is valid, and a type
pub own_valid : (m : Module) (func : ℕ) (f : Func) → ValidModule m → IsOwn m func f → ValidBody m f
own_valid m func f valid own = element (ValidBody m) m.funcs (func - length m.imports) f valid.bodies own.1

there_at : (types : List FuncType) (k : ℕ) → k < length types → (t : FuncType) × (slice_get types k ≡ Some t)
there_at [] k h = absurd (omega arith)
there_at (t ∷ ts) zero h = (t, refl)
there_at (t ∷ ts) (suc k) h = there_at ts k (omega arith)

pub own_type : (m : Module) (func : ℕ) (f : Func) → ValidModule m → IsOwn m func f
    → (t : FuncType) × (slice_get m.types f.type_index ≡ Some t)
own_type m func f valid own =
    there_at m.types f.type_index
    (element (λ (g : Func). g.type_index < length m.types) m.funcs (func - length m.imports) f
    valid.outside.funcs own.1)

abbrev pub HasType : Module → Func → FuncType → Type 0
HasType m f t = slice_get m.types f.type_index ≡ Some t

is_there : (os : Ops) (k : ℕ) (o : Op) → ops_at os k ≡ Some o → k < ops_count os
is_there os k o h =
    let test : nat_lt k (ops_count os) ≡ true = sym (ops_counted os k) ∙ ap is_some h in
    grind (arith, nat_tests)

-- there is one function at an index, and it has one type
pub one_function : (m : Module) (func : ℕ) (f g : Func) (t u : FuncType) (P : Func → FuncType → Type 0) → IsOwn m func f
    → IsOwn m func g → HasType m f t → HasType m g u → P g u → P f t
one_function m func f g t u P own other is other_is h =
    let some : Some g ≡ Some f = sym other.1 ∙ own.1 in
    let same : g ≡ f = cc in
    let some_type : Some u ≡ Some t = sym other_is ∙ (ap (λ (x : Func). slice_get m.types x.type_index) same ∙ is) in
    let same_type : u ≡ t = cc in
    subst (P f) same_type (subst (λ (x : Func). P x u) same h)

none_outside : (outside : List (List ValType)) → AllZip Matches [] outside → outside ≡ []
none_outside [] m = refl
none_outside (ts ∷ tss) m = absurd m

is_some_known : (o : Option Known) (k : Known) → o ≡ Some k → o ≡ None → ⊥
is_some_known None k h none = cc
is_some_known (Some l) k h none = cc

-- what the algorithm knows at a place of a function
abbrev pub known : Module → Func → FuncType → (place : ℕ) → Option Known
known m f t place = ops_known (body_context m t f) [] f.body (start []) place

module _ (m : Module) (func place : ℕ) (f : Func) (t : FuncType) (own : IsOwn m func f) (is : HasType m f t) where
  pub known_exact : (p : Point) → ReachesAt m func place p → (k : Known) × (known m f t place ≡ Some k) × MatchPoint k p
  known_exact p h =
      ops_known_exact (body_context m t f) [] [] f.body (start []) [] place p tt (start_matches [])
      (one_function m func f h.0 t h.1 (λ f t. Reaches (body_context m t f) [] f.body [] place p) own h.2 is h.3 h.4)

  pub known_sound : (k : Known) (p : Point) → known m f t place ≡ Some k → MatchPoint k p → ReachesAt m func place p
  known_sound k p h matches =
      let c = body_context m t f in
      let found = ops_known_sound c [] f.body (start []) place k p h matches in
      let r =
      subst (λ (outside : List (List ValType)). Reaches c outside f.body found.1 place p)
      (none_outside found.0 found.2) found.4 in
      (f, t, own, is, subst (λ (old : List ValType). Reaches c [] f.body old place p) (start_is [] found.1 found.3) r)

  pub matches : (k : Known) (p : Point) → known m f t place ≡ Some k → ReachesAt m func place p → MatchPoint k p
  matches k p h reached =
      let found = known_exact p reached in
      let some : Some found.0 ≡ Some k = sym found.1 ∙ h in
      let same : found.0 ≡ k = cc in
      subst (λ (k : Known). MatchPoint k p) same found.2

  pub reached : (p : Point) → PassesAt m func place p → ReachesAt m func place p
  reached p h =
      (h.0, h.1, h.2, h.3, passes_reaches (body_context m h.1 h.0) [] h.0.body [] (reverse h.1.results) place p h.4)

  -- a typing passes through the place
  pub passed_at : (o : Op) → ValidBody m f → ops_at f.body place ≡ Some o → (p : Point) × PassesAt m func place p
  passed_at o v there =
      let found =
      typed_passes (body_context m t f) [] f.body [] (reverse t.results) place (is_there f.body place o there)
      (v t is) in
      (found.0, (f, t, own, is, found.1))

-- what the algorithm answers at a place of a function
pub record Answers (m : Module) (func place : ℕ) (o : Option Known) : Type 0 where
  pub exact : (k : Known) → o ≡ Some k → (p : Point) → MatchPoint k p ↔ ReachesAt m func place p
  pub every : (k : Known) → o ≡ Some k → (p : Point) → PassesAt m func place p → MatchPoint k p
  pub some : (k : Known) → o ≡ Some k → (p : Point) × PassesAt m func place p × MatchPoint k p
  pub answers : o ≢ None

answers_at : (m : Module) (func place : ℕ) (f : Func) (t : FuncType) → ValidModule m → IsOwn m func f → HasType m f t
    → IsPlace m func place → Answers m func place (known m f t place)
answers_at m func place f t valid own is there =
    let some : Some there.0 ≡ Some f = sym there.2.1 ∙ own.1 in
    let same : there.0 ≡ f = cc in
    let here : ops_at f.body place ≡ Some there.1 = sym (ap (λ (x : Func). ops_at x.body place) same) ∙ there.3 in
    let passed = passed_at m func place f t own is there.1 (own_valid m func f valid own) here in
    let found = known_exact m func place f t own is passed.0 (reached m func place f t own is passed.0 passed.1) in
    record {
      exact = λ k h p. (known_sound m func place f t own is k p h, matches m func place f t own is k p h);
      every = λ k h p through. matches m func place f t own is k p h (reached m func place f t own is p through);
      some = λ k h. (
        passed.0,
        passed.1,
        matches m func place f t own is k passed.0 h (reached m func place f t own is passed.0 passed.1),
      );
      answers = is_some_known (known m f t place) found.0 found.1;
    }

-- the same of a module that is given in other words
pub answers_there : (n l m : Module) (func place : ℕ) (f : Func) (t : FuncType) → n ≡ l → l ≡ m → ValidModule m
    → IsOwn l func f → HasType l f t → IsPlace m func place → Answers m func place (known n f t place)
answers_there n l m func place f t one two valid own is there =
    subst (λ (x : Module). Answers m func place (known x f t place)) (sym (one ∙ two))
    (answers_at m func place f t valid (subst (λ (x : Module). IsOwn x func f) two own)
    (subst (λ (x : Module). HasType x f t) two is) there)

-- ---- points that are known wholly

-- all types of these operands are known, and the point can be reached
abbrev pub surely : List ValType → Stack
surely ts = record { unreachable = false; types = knowns ts }

pub types_are : (ts us : List ValType) → MatchTypes false (knowns ts) us → us ≡ ts
types_are [] us m = m
types_are (t ∷ ts) [] m = absurd m
types_are (t ∷ ts) (u ∷ us) m =
    let first : t ≡ u = m.0 in
    let rest = types_are ts us m.1 in
    cc

are_types : (ts : List ValType) → MatchTypes false (knowns ts) ts
are_types [] = refl
are_types (t ∷ ts) = (refl, are_types ts)

stacks_are : (tss uss : List (List ValType)) → AllZip Matches (map surely tss) uss → uss ≡ tss
stacks_are [] [] m = refl
stacks_are [] (us ∷ uss) m = absurd m
stacks_are (ts ∷ tss) [] m = absurd m
stacks_are (ts ∷ tss) (us ∷ uss) m =
    let first = types_are ts us m.0 in
    let rest = stacks_are tss uss m.1 in
    cc

are_stacks : (tss : List (List ValType)) → AllZip Matches (map surely tss) tss
are_stacks [] = tt
are_stacks (ts ∷ tss) = (are_types ts, are_stacks tss)

-- where all is known, the instructions before a place lead to one point
pub leads_to : (m : Module) (func place : ℕ) (f : Func) (t : FuncType) (p : Point) → IsOwn m func f → HasType m f t
    → known m f t place ≡ Some (record { labels = p.labels; stacks = map surely p.stacks })
    → (q : Point) → ReachesAt m func place q ↔ (q ≡ p)
leads_to m func place f t p own is h q =
    let k : Known = record { labels = p.labels; stacks = map surely p.stacks } in (
      λ reached.
          let m = matches m func place f t own is k q h reached in
          let stacks = stacks_are p.stacks q.stacks m.1 in
          λ i. record { labels = sym m.0 i; stacks = stacks i },
      λ e. known_sound m func place f t own is k q h
          (subst (λ (q : Point). MatchPoint k q) (sym e) (refl, are_stacks p.stacks)),
    )

pub passes_leads : (m : Module) (func place : ℕ) (p : Point) → PassesAt m func place p → ReachesAt m func place p
passes_leads m func place p h =
    (h.0, h.1, h.2, h.3, passes_reaches (body_context m h.1 h.0) [] h.0.body [] (reverse h.1.results) place p h.4)

pub some_passes : (m : Module) (func place : ℕ) → ValidModule m → IsPlace m func place
    → (p : Point) × PassesAt m func place p
some_passes m func place valid there =
    let v = own_valid m func there.0 valid there.2 in
    let t = own_type m func there.0 valid there.2 in
    passed_at m func place there.0 t.0 there.2 t.1 there.1 v there.3
