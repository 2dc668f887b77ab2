-- What the algorithm knows where it is stopped before an instruction is what typings lead to, and no more.
use Rattle.std.proofs.Common.{◌≡◌, ℕ, zero, suc, ◌-◌, ◌<◌, ◌≤◌, ◌⊎◌, inl, inr, Bool, true, false, if◌then◌else◌, nat_lt, List, [], ◌∷◌, reverse, Option, Some, refl, sym, ap, subst, ◌∙◌, arith}
use Rattle.std.proofs.lemmas.Bool.Decides.{nat_tests}
use Rattle.std.specs.List.{AllZip}
use Rattle.wasm_ast.specs.declared.values.ValType.{ValType}
use Rattle.wasm_ast.specs.declared.values.ValType.TheVariants.{I32}
use Rattle.wasm_ast.specs.declared.values.FuncType.{FuncType}
use Rattle.wasm_ast.specs.declared.instr.BlockType.{BlockType}
use Rattle.wasm_ast.specs.Syntax.{Op, simple, block, loop, if', Ops, stop, next, count, ops_count}
use Rattle.wasm_ast.specs.Types.{block_type}
use Rattle.validator.specs.Typing.{Context, under, on_top, Replaces, OpTyped, Typed}
use Rattle.validator.specs.PlaceTypes.{Point, point, Reaches, OpReaches, Passes, OpPasses, Stack, Known, Matches, MatchPoint}
use Rattle.validator.specs.Inside.Algorithm.{and_then, start, after_i32, check_op}
use Rattle.validator.specs.Inside.PlaceWalk.{below, ops_known, op_known, arm_known}
use Rattle.validator.proofs.StackMatching.{passed, passes, AfterI32, replaced_sound, replaced_exact, after_i32_sound, after_i32_exact}
use Rattle.validator.proofs.SequenceExact.{start_matches, start_is, op_sound, op_exact}

-- ---- tests

by_test :
    {A C : Type 0} (b : Bool) (x y : Option A) (r : A) → (if b then x else y) ≡ Some r
    → (b ≡ true → x ≡ Some r → C) → (b ≡ false → y ≡ Some r → C) → C
by_test true x y r h f g = f refl h
by_test false x y r h f g = g refl h

pub either : {A B C : Type 0} → A ⊎ B → (A → C) → (B → C) → C
either (inl a) f g = f a
either (inr b) f g = g b

is_below : (k n : ℕ) → nat_lt k n ≡ true → k < n
is_below k n h = grind (arith, nat_tests)

is_past : (k n : ℕ) → nat_lt k n ≡ false → n ≤ k
is_past k n h = grind (arith, nat_tests)

below_test : {A : Type 0} (k n : ℕ) (x y : Option A) → k < n → (if nat_lt k n then x else y) ≡ x
below_test k n x y h = let b : nat_lt k n ≡ true = grind (arith, nat_tests) in ap (λ b. if b then x else y) b

past_test : {A : Type 0} (k n : ℕ) (x y : Option A) → n ≤ k → (if nat_lt k n then x else y) ≡ y
past_test k n x y h = let b : nat_lt k n ≡ false = grind (arith, nat_tests) in ap (λ b. if b then x else y) b

by_order : {C : Type 0} (k n : ℕ) → (k < n → C) → (n ≤ k → C) → C
by_order {C = C} k n f g = of (nat_lt k n) refl
  where
    of : (b : Bool) → nat_lt k n ≡ b → C
    of true h = f (is_below k n h)
    of false h = g (is_past k n h)

-- ---- soundness

-- what the algorithm knows represents points that typings lead to
abbrev Found : (List Stack) → Stack → (List (List ValType) → List ValType → Type 0) → Type 0
Found outs s P = (outside : List (List ValType)) × (old : List ValType) × AllZip Matches outs outside × Matches s old
    × P outside old

-- a point that the body of a block reaches, from what is outside it
inner : (outs : List Stack) (u : Stack) (params : List ValType)
    (P : List (List ValType) → List ValType → Type 0) → Found (u ∷ outs) (start params) P
    → (outside : List (List ValType)) × (rest : List ValType) × AllZip Matches outs outside × Matches u rest
    × P (rest ∷ outside) (reverse params)
inner outs u params P ([], old, m, is, h) = absurd m
inner outs u params P (rest ∷ outside, old, m, is, h) =
    (outside, rest, m.1, m.0, subst (P (rest ∷ outside)) (start_is params old is) h)

here : (c : Context) (outs : List Stack) (s : Stack) (r : Known) (p : Point)
    → Some (record { labels = c.labels; stacks = s ∷ outs }) ≡ Some r → MatchPoint r p
    → Found outs s (λ outside old. p ≡ point c outside old)
here c outs s r p h m = split p.stacks refl
  where
    known : Known
    known = record { labels = c.labels; stacks = s ∷ outs }

    same : known ≡ r
    same = cc

    matched : MatchPoint known p
    matched = subst (λ (k : Known). MatchPoint k p) (sym same) m

    split : (tss : List (List ValType)) → p.stacks ≡ tss → Found outs s (λ outside old. p ≡ point c outside old)
    split [] e = absurd (subst (AllZip Matches (s ∷ outs)) e matched.1)
    split (ts ∷ tss) e =
        let is = subst (AllZip Matches (s ∷ outs)) e matched.1 in
        (tss, ts, is.1, is.0, λ i. record { labels = sym matched.0 i; stacks = e i })

-- what is taken from the top is above the rest
taken : (ts old rest : List ValType) → Replaces ts [] old rest → old ≡ on_top ts rest
taken ts old rest h = h.1 ∙ ap (on_top ts) (sym h.2)

taken_after_i32 : (ts old rest : List ValType) → AfterI32 (Replaces ts []) old rest → old ≡ I32 ∷ on_top ts rest
taken_after_i32 ts old rest h = h.1 ∙ ap (λ (us : List ValType). I32 ∷ us) (taken ts h.0 rest h.2)

-- what a block of a type leaves on the operands below it, where the rest of a check is known
abbrev Leaves : (FuncType → Stack → Option Stack) → (FuncType → List ValType → List ValType → Type 0) → Type 0
Leaves takes T = (t : FuncType) (s u : Stack) (rest : List ValType) → takes t s ≡ Some u → Matches u rest
    → (old : List ValType) × Matches s old × T t old rest

block_leaves : Leaves below (λ t old rest. old ≡ on_top t.params rest)
block_leaves t s u rest h m =
    let found = replaced_sound t.params [] s u rest h m in
    (found.0, found.1, taken t.params found.0 rest found.2)

if_leaves : Leaves (λ t. after_i32 (below t)) (λ t old rest. old ≡ I32 ∷ on_top t.params rest)
if_leaves t s u rest h m =
    let found =
    after_i32_sound (below t) (Replaces t.params []) (replaced_sound t.params []) s u rest h m in
    (found.0, found.1, taken_after_i32 t.params found.0 rest found.2)

enclosed : (named : Option FuncType) (outs : List Stack) (s : Stack) (r : Known)
    (takes : FuncType → Stack → Option Stack) (T : FuncType → List ValType → List ValType → Type 0) → Leaves takes T
    → (known : FuncType → Stack → Option Known) (P : FuncType → List (List ValType) → List ValType → Type 0)
    → ((t : FuncType) (u : Stack) → known t u ≡ Some r → Found (u ∷ outs) (start t.params) (P t))
    → and_then named (λ t. and_then (takes t s) (known t)) ≡ Some r
    → Found outs s (λ outside old. (t : FuncType) × (rest : List ValType) × (named ≡ Some t) × T t old rest
    × P t (rest ∷ outside) (reverse t.params))
enclosed named outs s r takes T leaves known P inside h =
    let is = passed named (λ t. and_then (takes t s) (known t)) r h in
    let t = is.0 in
    let below = passed (takes t s) (known t) r is.2 in
    let found = inner outs below.0 t.params (P t) (inside t below.0 below.2) in
    let old = leaves t s below.0 found.1 below.1 found.3 in
    (found.0, old.0, found.2, old.1, (t, found.1, is.1, old.2, found.4))

abbrev IfReaches : Context → Ops → Ops → ℕ → Point → FuncType → List (List ValType) → List ValType → Type 0
IfReaches c first second k p t outside old =
    ((k < ops_count first) × Reaches (under c t.results) outside first old k p)
    ⊎ ((ops_count first ≤ k) × Reaches (under c t.results) outside second old (k - ops_count first) p)

mutual
  pub ops_known_sound : (c : Context) (outs : List Stack) (os : Ops) (s : Stack) (k : ℕ) (r : Known) (p : Point)
      → ops_known c outs os s k ≡ Some r → MatchPoint r p
      → Found outs s (λ outside old. Reaches c outside os old k p)
  ops_known_sound c outs stop s k r p h m = cc
  ops_known_sound c outs (next o os) s k r p h m =
      by_test (nat_lt k (count o)) (op_known c outs o s k)
      (and_then (check_op c o s) (λ u. ops_known c outs os u (k - count o))) r h
      (λ b x. let found = op_known_sound c outs o s k r p x m in
      (found.0, found.1, found.2, found.3, inl (is_below k (count o) b, found.4)))
      (λ b y. let first = passed (check_op c o s) (λ u. ops_known c outs os u (k - count o)) r y in
      let rest = ops_known_sound c outs os first.0 (k - count o) r p first.2 m in
      let old = op_sound c o s first.0 rest.1 first.1 rest.3 in
      (rest.0, old.0, rest.2, old.1, inr (is_past k (count o) b, rest.1, old.2, rest.4)))

  op_known_sound : (c : Context) (outs : List Stack) (o : Op) (s : Stack) (k : ℕ) (r : Known) (p : Point)
      → op_known c outs o s k ≡ Some r → MatchPoint r p
      → Found outs s (λ outside old. OpReaches c outside o old k p)
  op_known_sound c outs o s zero r p h m = here c outs s r p h m
  op_known_sound c outs (simple i) s (suc k) r p h m = cc
  op_known_sound c outs (block b body) s (suc k) r p h m =
      enclosed (block_type c.types b) outs s r below (λ t old rest. old ≡ on_top t.params rest) block_leaves
      (λ t u. ops_known (under c t.results) (u ∷ outs) body (start t.params) k)
      (λ t outside old. Reaches (under c t.results) outside body old k p)
      (λ t u x. ops_known_sound (under c t.results) (u ∷ outs) body (start t.params) k r p x m) h
  op_known_sound c outs (loop b body) s (suc k) r p h m =
      enclosed (block_type c.types b) outs s r below (λ t old rest. old ≡ on_top t.params rest) block_leaves
      (λ t u. ops_known (under c t.params) (u ∷ outs) body (start t.params) k)
      (λ t outside old. Reaches (under c t.params) outside body old k p)
      (λ t u x. ops_known_sound (under c t.params) (u ∷ outs) body (start t.params) k r p x m) h
  op_known_sound c outs (if' b first second) s (suc k) r p h m =
      let n = ops_count first in
      enclosed (block_type c.types b) outs s r (λ t. after_i32 (below t))
      (λ t old rest. old ≡ I32 ∷ on_top t.params rest) if_leaves
      (λ t u. if nat_lt k n then ops_known (under c t.results) (u ∷ outs) first (start t.params) k
      else ops_known (under c t.results) (u ∷ outs) second (start t.params) (k - n))
      (IfReaches c first second k p)
      (λ t u x. by_test (nat_lt k n) (ops_known (under c t.results) (u ∷ outs) first (start t.params) k)
      (ops_known (under c t.results) (u ∷ outs) second (start t.params) (k - n)) r x
      (λ b y. let found = ops_known_sound (under c t.results) (u ∷ outs) first (start t.params) k r p y m in
      (found.0, found.1, found.2, found.3, inl (is_below k n b, found.4)))
      (λ b y. let found =
      ops_known_sound (under c t.results) (u ∷ outs) second (start t.params) (k - n) r p y m in
      (found.0, found.1, found.2, found.3, inr (is_past k n b, found.4)))) h

-- ---- exactness

-- points that typings lead to are represented by what the algorithm knows
abbrev Knows : Option Known → Point → Type 0
Knows o p = (r : Known) × (o ≡ Some r) × MatchPoint r p

on_rest : (ts old rest : List ValType) → old ≡ on_top ts rest → Replaces ts [] old rest
on_rest ts old rest h = (rest, h, refl)

block_takes : (t : FuncType) (s : Stack) (old rest : List ValType) → Matches s old → old ≡ on_top t.params rest
    → (u : Stack) × (below t s ≡ Some u) × Matches u rest
block_takes t s old rest m h = replaced_exact t.params [] s old rest m (on_rest t.params old rest h)

if_takes : (t : FuncType) (s : Stack) (old rest : List ValType) → Matches s old → old ≡ I32 ∷ on_top t.params rest
    → (u : Stack) × (after_i32 (below t) s ≡ Some u) × Matches u rest
if_takes t s old rest m h =
    after_i32_exact (below t) (Replaces t.params []) (replaced_exact t.params []) s old rest m
    (on_top t.params rest, h, on_rest t.params (on_top t.params rest) rest refl)

-- the steps into a block pass
opens : (named : Option FuncType) (t : FuncType) (s u : Stack) (takes : FuncType → Stack → Option Stack)
    (known : FuncType → Stack → Option Known) (p : Point) → named ≡ Some t → takes t s ≡ Some u
    → Knows (known t u) p
    → Knows (and_then named (λ t. and_then (takes t s) (known t))) p
opens named t s u takes known p is taken found = (
  found.0,
  passes named (λ t. and_then (takes t s) (known t)) t is ∙ (passes (takes t s) (known t) u taken ∙ found.1),
  found.2,
)

mutual
  pub ops_known_exact : (c : Context) (outs : List Stack) (outside : List (List ValType)) (os : Ops) (s : Stack)
      (old : List ValType) (k : ℕ) (p : Point) → AllZip Matches outs outside → Matches s old
      → Reaches c outside os old k p → Knows (ops_known c outs os s k) p
  ops_known_exact c outs outside stop s old k p w m h = absurd h
  ops_known_exact c outs outside (next o os) s old k p w m h =
      let n = count o in
      let rest : Stack → Option Known = λ u. ops_known c outs os u (k - n) in
      either h
      (λ x. let found = op_known_exact c outs outside o s old k p w m x.1 in
      (found.0, below_test k n (op_known c outs o s k) (and_then (check_op c o s) rest) x.0 ∙ found.1, found.2))
      (λ x. let first = op_exact c o s old x.1 m x.2 in
      let found = ops_known_exact c outs outside os first.0 x.1 (k - n) p w first.2 x.3 in (
        found.0,
        past_test k n (op_known c outs o s k) (and_then (check_op c o s) rest) x.0
            ∙ (passes (check_op c o s) rest first.0 first.1 ∙ found.1),
        found.2,
      ))

  op_known_exact : (c : Context) (outs : List Stack) (outside : List (List ValType)) (o : Op) (s : Stack)
      (old : List ValType) (k : ℕ) (p : Point) → AllZip Matches outs outside → Matches s old
      → OpReaches c outside o old k p → Knows (op_known c outs o s k) p
  op_known_exact c outs outside o s old zero p w m h =
      let known : Known = record { labels = c.labels; stacks = s ∷ outs } in
      (known, refl, subst (MatchPoint known) (sym h) (refl, (m, w)))
  op_known_exact c outs outside (simple i) s old (suc k) p w m h = absurd h
  op_known_exact c outs outside (block b body) s old (suc k) p w m h =
      let t = h.0 in
      let found = block_takes t s old h.1 m h.3 in
      let u = found.0 in
      opens (block_type c.types b) t s u below
      (λ t u. ops_known (under c t.results) (u ∷ outs) body (start t.params) k) p h.2 found.1
      (ops_known_exact (under c t.results) (u ∷ outs) (h.1 ∷ outside) body (start t.params) (reverse t.params) k p
      (found.2, w) (start_matches t.params) h.4)
  op_known_exact c outs outside (loop b body) s old (suc k) p w m h =
      let t = h.0 in
      let found = block_takes t s old h.1 m h.3 in
      let u = found.0 in
      opens (block_type c.types b) t s u below
      (λ t u. ops_known (under c t.params) (u ∷ outs) body (start t.params) k) p h.2 found.1
      (ops_known_exact (under c t.params) (u ∷ outs) (h.1 ∷ outside) body (start t.params) (reverse t.params) k p
      (found.2, w) (start_matches t.params) h.4)
  op_known_exact c outs outside (if' b first second) s old (suc k) p w m h =
      let t = h.0 in
      let n = ops_count first in
      let found = if_takes t s old h.1 m h.3 in
      let u = found.0 in
      let one = ops_known (under c t.results) (u ∷ outs) first (start t.params) k in
      let two = ops_known (under c t.results) (u ∷ outs) second (start t.params) (k - n) in
      opens (block_type c.types b) t s u (λ t. after_i32 (below t))
      (λ t u. if nat_lt k n then ops_known (under c t.results) (u ∷ outs) first (start t.params) k
      else ops_known (under c t.results) (u ∷ outs) second (start t.params) (k - n)) p h.2 found.1
      (either h.4
      (λ x. let inside =
      ops_known_exact (under c t.results) (u ∷ outs) (h.1 ∷ outside) first (start t.params) (reverse t.params) k p
      (found.2, w) (start_matches t.params) x.1 in
      (inside.0, below_test k n one two x.0 ∙ inside.1, inside.2))
      (λ x. let inside =
      ops_known_exact (under c t.results) (u ∷ outs) (h.1 ∷ outside) second (start t.params) (reverse t.params)
      (k - n) p (found.2, w) (start_matches t.params) x.1 in
      (inside.0, past_test k n one two x.0 ∙ inside.1, inside.2)))

-- ---- typings of whole sequences

mutual
  -- a typing that passes through a point leads to it
  pub passes_reaches : (c : Context) (outside : List (List ValType)) (os : Ops) (old new : List ValType) (k : ℕ)
      (p : Point) → Passes c outside os old new k p → Reaches c outside os old k p
  passes_reaches c outside stop old new k p h = absurd h
  passes_reaches c outside (next o os) old new k p h =
      either h.1 (λ x. inl (x.0, op_passes_reaches c outside o old h.0 k p x.1))
      (λ x. inr (x.0, h.0, x.1, passes_reaches c outside os h.0 new (k - count o) p x.2))

  op_passes_reaches : (c : Context) (outside : List (List ValType)) (o : Op) (old new : List ValType) (k : ℕ)
      (p : Point) → OpPasses c outside o old new k p → OpReaches c outside o old k p
  op_passes_reaches c outside o old new zero p h = h.1
  op_passes_reaches c outside (simple i) old new (suc k) p h = absurd h
  op_passes_reaches c outside (block b body) old new (suc k) p h =
      let t = h.0 in (
        t,
        h.1,
        h.2,
        h.3,
        passes_reaches (under c t.results) (h.1 ∷ outside) body (reverse t.params) (reverse t.results)
            k p h.5,
      )
  op_passes_reaches c outside (loop b body) old new (suc k) p h =
      let t = h.0 in (
        t,
        h.1,
        h.2,
        h.3,
        passes_reaches (under c t.params) (h.1 ∷ outside) body (reverse t.params) (reverse t.results)
            k p h.5,
      )
  op_passes_reaches c outside (if' b first second) old new (suc k) p h =
      let t = h.0 in (
        t,
        h.1,
        h.2,
        h.3,
        either h.5
            (λ x. inl (
              x.0,
              passes_reaches (under c t.results) (h.1 ∷ outside) first (reverse t.params)
                  (reverse t.results) k p x.1,
            ))
            (λ x. inr (
              x.0,
              passes_reaches (under c t.results) (h.1 ∷ outside) second (reverse t.params)
                  (reverse t.results) (k - ops_count first) p x.2,
            )),
      )

mutual
  -- a typing that passes through a point is one of the sequence
  pub passes_typed : (c : Context) (outside : List (List ValType)) (os : Ops) (old new : List ValType) (k : ℕ)
      (p : Point) → Passes c outside os old new k p → Typed c os old new
  passes_typed c outside stop old new k p h = absurd h
  passes_typed c outside (next o os) old new k p h = (
    h.0,
    either h.1 (λ x. op_passes_typed c outside o old h.0 k p x.1) (λ x. x.1),
    either h.1 (λ x. x.2) (λ x. passes_typed c outside os h.0 new (k - count o) p x.2),
  )

  op_passes_typed : (c : Context) (outside : List (List ValType)) (o : Op) (old new : List ValType) (k : ℕ)
      (p : Point) → OpPasses c outside o old new k p → OpTyped c o old new
  op_passes_typed c outside o old new zero p h = h.0
  op_passes_typed c outside (simple i) old new (suc k) p h = absurd h
  op_passes_typed c outside (block b body) old new (suc k) p h =
      let t = h.0 in (
        t,
        h.2,
        (h.1, h.3, h.4),
        passes_typed (under c t.results) (h.1 ∷ outside) body (reverse t.params) (reverse t.results) k p h.5,
      )
  op_passes_typed c outside (loop b body) old new (suc k) p h =
      let t = h.0 in (
        t,
        h.2,
        (h.1, h.3, h.4),
        passes_typed (under c t.params) (h.1 ∷ outside) body (reverse t.params) (reverse t.results) k p h.5,
      )
  op_passes_typed c outside (if' b first second) old new (suc k) p h =
      let t = h.0 in
      let c' = under c t.results in
      let inside = h.1 ∷ outside in (
        t,
        on_top t.params h.1,
        h.3,
        h.2,
        (h.1, refl, h.4),
        either h.5 (λ x. passes_typed c' inside first (reverse t.params) (reverse t.results) k p x.1) (λ x. x.1),
        either h.5 (λ x. x.2)
            (λ x. passes_typed c' inside second (reverse t.params) (reverse t.results) (k - ops_count first) p x.2),
      )

-- a typing passes through some point before each place
abbrev PassesSome : Context → List (List ValType) → Ops → (old new : List ValType) → ℕ → Type 0
PassesSome c outside os old new k = (p : Point) × Passes c outside os old new k p

mutual
  pub typed_passes : (c : Context) (outside : List (List ValType)) (os : Ops) (old new : List ValType) (k : ℕ)
      → k < ops_count os → Typed c os old new → PassesSome c outside os old new k
  typed_passes c outside stop old new k n h = absurd (omega (arith, n))
  typed_passes c outside (next o os) old new k n h =
      by_order k (count o)
      (λ b. let found = op_typed_passes c outside o old h.0 k b h.1 in (found.0, (h.0, inl (b, found.1, h.2))))
      (λ b. let found = typed_passes c outside os h.0 new (k - count o) (omega (arith, b, n)) h.2 in
      (found.0, (h.0, inr (b, h.1, found.1))))

  op_typed_passes : (c : Context) (outside : List (List ValType)) (o : Op) (old new : List ValType) (k : ℕ)
      → k < count o → OpTyped c o old new → (p : Point) × OpPasses c outside o old new k p
  op_typed_passes c outside o old new zero n h = (point c outside old, (h, refl))
  op_typed_passes c outside (simple i) old new (suc k) n h = absurd (omega (arith, n))
  op_typed_passes c outside (block b body) old new (suc k) n h =
      let t = h.0 in
      let a = h.2 in
      let found =
      typed_passes (under c t.results) (a.0 ∷ outside) body (reverse t.params) (reverse t.results) k
      (omega (arith, n)) h.3 in
      (found.0, (t, a.0, h.1, a.1, a.2, found.1))
  op_typed_passes c outside (loop b body) old new (suc k) n h =
      let t = h.0 in
      let a = h.2 in
      let found =
      typed_passes (under c t.params) (a.0 ∷ outside) body (reverse t.params) (reverse t.results) k
      (omega (arith, n)) h.3 in
      (found.0, (t, a.0, h.1, a.1, a.2, found.1))
  op_typed_passes c outside (if' b first second) old new (suc k) n h =
      let t = h.0 in
      let a = h.4 in
      let old_is = h.2 ∙ ap (λ (us : List ValType). I32 ∷ us) a.1 in
      by_order k (ops_count first)
      (λ b. let found =
      typed_passes (under c t.results) (a.0 ∷ outside) first (reverse t.params) (reverse t.results) k b h.5 in
      (found.0, (t, a.0, h.3, old_is, a.2, inl (b, found.1, h.6))))
      (λ b. let found =
      typed_passes (under c t.results) (a.0 ∷ outside) second (reverse t.params) (reverse t.results)
      (k - ops_count first) (omega (arith, b, n)) h.6 in
      (found.0, (t, a.0, h.3, old_is, a.2, inr (b, h.5, found.1))))

-- ---- steps of the walk

-- before an instruction inside an `if` what is known is what is known in its arms
pub known_in_if : (c : Context) (outs : List Stack) (o : Op) (s : Stack) (place inside : ℕ) (b : BlockType)
    (first second : Ops) (t : FuncType) → 1 ≤ place → inside ≡ place - 1 → o ≡ if' b first second
    → block_type c.types b ≡ Some t
    → op_known c outs o s place
    ≡ and_then (after_i32 (below t) s) (λ u. arm_known (under c t.results) t (u ∷ outs) first second inside)
known_in_if c outs o s zero inside b first second t some is if_is named = absurd (omega (arith, some))
known_in_if c outs o s (suc k) inside b first second t some is if_is named =
    let same : inside ≡ k = omega (arith, is) in
    let known : FuncType → Option Known =
    λ t. and_then (after_i32 (below t) s) (λ u. arm_known (under c t.results) t (u ∷ outs) first second k) in
    ap (λ (o : Op). op_known c outs o s (suc k)) if_is
    ∙ (passes (block_type c.types b) known t named
    ∙ ap (λ (n : ℕ). and_then (after_i32 (below t) s) (λ u. arm_known (under c t.results) t (u ∷ outs) first second n))
    (sym same))
