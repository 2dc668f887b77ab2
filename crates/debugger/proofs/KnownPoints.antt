-- What is known of a place that is reached with one point: its operands' types, all of them.
use Rattle.std.proofs.Common.{◌≡◌, ℕ, zero, suc, ◌+◌, ◌-◌, ◌≤◌, inl, inr, Bool, true, false, List, [], ◌∷◌, ◌++◌, length, drop, reverse, Option, Some, None, refl, sym, ap, ◌∙◌, arith}
use Rattle.std.specs.Prelude.{slice_get}
use Rattle.std.proofs.lemmas.List.{reverse-append, drop_more}
use Rattle.std.proofs.lemmas.Option.{slice_get_within, get_or_from_slice_get}
use Rattle.std.specs.List.{AllZip}
use Rattle.wasm_ast.specs.declared.values.ValType.{ValType}
use Rattle.wasm_ast.specs.declared.values.ValType.TheVariants.{I32, I64}
use Rattle.wasm_ast.specs.declared.module.Module.{Module}
use Rattle.wasm_ast.specs.Syntax.{Op, simple, block, loop, if', Ops, stop, next, count, ops_count}
use Rattle.validator.specs.Typing.{Context, under, body_context}
use Rattle.validator.specs.PlaceTypes.{Point, Reaches, OpReaches, ReachesAt, Stack, Known, MatchTypes, MatchPoint, Matches}
use Rattle.step_machine.specs.Frames.{joined}
use Rattle.debugger.specs.Inside.Typed.{known_of, oldest_first}

-- ---- one point

abbrev other : ValType → ValType
other I32 = I64
other I64 = I32

apart : I64 ≡ I32 → ⊥
apart h = cc

is_other : (t : ValType) → other t ≡ t → ⊥
is_other I32 h = apart h
is_other I64 h = apart (sym h)

tail_same : (t : ValType) (ts us : List ValType) → t ∷ ts ≡ t ∷ us → ts ≡ us
tail_same t ts us h = cc

head_same : (t u : ValType) (ts us : List ValType) → t ∷ ts ≡ u ∷ us → t ≡ u
head_same t u ts us h = cc

one_more : (t : ValType) (ts : List ValType) → t ∷ ts ≡ ts → ⊥
one_more t ts h = let e : length (t ∷ ts) ≡ length ts = ap (λ (l : List ValType). length l) h in omega arith

abbrev all_some : List ValType → List (Option ValType)
all_some [] = []
all_some (t ∷ ts) = Some t ∷ all_some ts

some_append : (ts us : List ValType) → all_some (ts ++ us) ≡ all_some ts ++ all_some us
some_append [] us = refl
some_append (t ∷ ts) us = ap (λ (xs : List (Option ValType)). Some t ∷ xs) (some_append ts us)

reverse_some : (ts : List ValType) → reverse (all_some ts) ≡ all_some (reverse ts)
reverse_some [] = refl
reverse_some (t ∷ ts) =
    reverse-append (Some t ∷ []) (all_some ts)
    ∙ ap (λ (xs : List (Option ValType)). xs ++ Some t ∷ []) (reverse_some ts) ∙ sym (some_append (reverse ts) (t ∷ []))
    ∙ ap all_some (sym (reverse-append (t ∷ []) ts))

known_is : (ts : List ValType) → known_of (all_some ts) ≡ ts
known_is [] = refl
known_is (t ∷ ts) = ap (λ (us : List ValType). t ∷ us) (known_is ts)

-- types that only one list matches are known
exactly : (u : Bool) (xs : List (Option ValType)) (ts : List ValType) → MatchTypes u xs ts
    → ((us : List ValType) → MatchTypes u xs us → us ≡ ts) → xs ≡ all_some ts
exactly true [] ts m one = absurd (one_more I32 ts (one (I32 ∷ ts) tt))
exactly false [] [] m one = refl
exactly false [] (t ∷ ts) m one = cc
exactly true (x ∷ xs) [] m one = absurd m
exactly false (x ∷ xs) [] m one = absurd m
exactly true (None ∷ xs) (t ∷ ts) m one =
    absurd (is_other t (head_same (other t) t ts ts (one (other t ∷ ts) (tt, m.1))))
exactly false (None ∷ xs) (t ∷ ts) m one =
    absurd (is_other t (head_same (other t) t ts ts (one (other t ∷ ts) (tt, m.1))))
exactly true (Some a ∷ xs) (t ∷ ts) m one =
    let rest = exactly true xs ts m.1 (λ us h. tail_same t us ts (one (t ∷ us) (m.0, h))) in
    let same : a ≡ t = m.0 in
    cc
exactly false (Some a ∷ xs) (t ∷ ts) m one =
    let rest = exactly false xs ts m.1 (λ us h. tail_same t us ts (one (t ∷ us) (m.0, h))) in
    let same : a ≡ t = m.0 in
    cc

-- those of each block
abbrev AllKnown : List Stack → List (List ValType) → Type 0
AllKnown [] [] = Unit {0}
AllKnown [] (ts ∷ tss) = ⊥
AllKnown (s ∷ ss) [] = ⊥
AllKnown (s ∷ ss) (ts ∷ tss) = (s.types ≡ all_some ts) × AllKnown ss tss

heads_same : (ts us : List ValType) (tss uss : List (List ValType)) → ts ∷ tss ≡ us ∷ uss → ts ≡ us
heads_same ts us tss uss h = cc

tails_same : (ts us : List ValType) (tss uss : List (List ValType)) → ts ∷ tss ≡ us ∷ uss → tss ≡ uss
tails_same ts us tss uss h = cc

all_exactly : (ss : List Stack) (tss : List (List ValType)) → AllZip Matches ss tss
    → ((uss : List (List ValType)) → AllZip Matches ss uss → uss ≡ tss) → AllKnown ss tss
all_exactly [] [] m one = tt
all_exactly [] (ts ∷ tss) m one = absurd m
all_exactly (s ∷ ss) [] m one = absurd m
all_exactly (s ∷ ss) (ts ∷ tss) m one = (
  exactly s.unreachable s.types ts m.0 (λ us h. heads_same us ts tss tss (one (us ∷ tss) (h, m.1))),
  all_exactly ss tss m.1 (λ uss h. tails_same ts ts uss tss (one (ts ∷ uss) (m.0, h))),
)

oldest_is : (ss : List Stack) (tss : List (List ValType)) → AllKnown ss tss → oldest_first ss ≡ reverse (joined tss)
oldest_is [] [] h = refl
oldest_is [] (ts ∷ tss) h = absurd h
oldest_is (s ∷ ss) [] h = absurd h
oldest_is (s ∷ ss) (ts ∷ tss) h =
    let outer = oldest_is ss tss h.1 in
    let inner : known_of (reverse s.types) ≡ reverse ts =
    ap (λ (xs : List (Option ValType)). known_of (reverse xs)) h.0 ∙ ap known_of (reverse_some ts)
    ∙ known_is (reverse ts) in
    let whole = reverse-append ts (joined tss) in
    cc

-- what is known of a point that is the only one, and how many blocks it has
pub oldest_of_one : (k : Known) (p : Point) → MatchPoint k p → ((q : Point) → MatchPoint k q → q ≡ p)
    → oldest_first k.stacks ≡ reverse (joined p.stacks)
oldest_of_one k p m one =
    oldest_is k.stacks p.stacks
    (all_exactly k.stacks p.stacks m.1
    (λ uss h. ap (λ (q : Point). q.stacks) (one (record { labels = p.labels; stacks = uss }) (m.0, h))))

-- ---- how many blocks are open

same_number : (ss : List Stack) (tss : List (List ValType)) → AllZip Matches ss tss → length ss ≡ length tss
same_number [] [] m = refl
same_number [] (ts ∷ tss) m = absurd m
same_number (s ∷ ss) [] m = absurd m
same_number (s ∷ ss) (ts ∷ tss) m = let rest = same_number ss tss m.1 in omega arith

-- a point has operands for each label, and no more labels than the instructions that lead to it open
record Deep (labels outside place : ℕ) (p : Point) : Type 0 where
  same : length p.stacks + labels ≡ length p.labels + (outside + 1)
  few : length p.labels ≤ place + labels

mutual
  reaches_deep : (c : Context) (outside : List (List ValType)) (os : Ops) (old : List ValType) (k : ℕ) (p : Point)
      → Reaches c outside os old k p → Deep (length c.labels) (length outside) k p
  reaches_deep c outside stop old k p h = absurd h
  reaches_deep c outside (next o os) old k p (inl h) = op_reaches_deep c outside o old k p h.1
  reaches_deep c outside (next o os) old k p (inr h) =
      let d = reaches_deep c outside os h.1 (k - count o) p h.3 in
      record { same = d.same; few = omega (arith, d.few) }

  op_reaches_deep : (c : Context) (outside : List (List ValType)) (o : Op) (old : List ValType) (k : ℕ) (p : Point)
      → OpReaches c outside o old k p → Deep (length c.labels) (length outside) k p
  op_reaches_deep c outside o old zero p h =
      let labels : length p.labels ≡ length c.labels = ap (λ (q : Point). length q.labels) h in
      let stacks : length p.stacks ≡ length outside + 1 = ap (λ (q : Point). length q.stacks) h ∙ omega arith in
      record { same = omega arith; few = omega arith }
  op_reaches_deep c outside (simple s) old (suc k) p h = absurd h
  op_reaches_deep c outside (block b body) old (suc k) p h =
      let d = reaches_deep (under c h.0.results) (h.1 ∷ outside) body (reverse h.0.params) k p h.4 in
      record { same = omega (arith, d.same); few = omega (arith, d.few) }
  op_reaches_deep c outside (loop b body) old (suc k) p h =
      let d = reaches_deep (under c h.0.params) (h.1 ∷ outside) body (reverse h.0.params) k p h.4 in
      record { same = omega (arith, d.same); few = omega (arith, d.few) }
  op_reaches_deep c outside (if' b then_arm else_arm) old (suc k) p (t, rest, is, on, inl h) =
      let d = reaches_deep (under c t.results) (rest ∷ outside) then_arm (reverse t.params) k p h.1 in
      record { same = omega (arith, d.same); few = omega (arith, d.few) }
  op_reaches_deep c outside (if' b then_arm else_arm) old (suc k) p (t, rest, is, on, inr h) =
      let d =
      reaches_deep (under c t.results) (rest ∷ outside) else_arm (reverse t.params) (k - ops_count then_arm) p h.1 in
      record { same = omega (arith, d.same); few = omega (arith, d.few) }

pub blocks_known : (m : Module) (func place : ℕ) (k : Known) (p : Point) → ReachesAt m func place p → MatchPoint k p
    → (length k.stacks ≡ length k.labels) × (length k.labels ≤ place + 1)
blocks_known m func place k p (f, t, own, is, h) match =
    let d = reaches_deep (body_context m t f) [] f.body [] place p h in
    let stacks = same_number k.stacks p.stacks match.1 in
    let labels : length k.labels ≡ length p.labels = ap (λ (l : List (List ValType)). length l) match.0 in
    (omega (arith, d.same), omega (arith, d.few))

-- ---- block by block

pub oldest_more : (ss : List Stack) (i at j : ℕ) (s : Stack) (ts : List (Option ValType)) → i ≡ at → j ≡ at + 1
    → slice_get ss at ≡ Some s → reverse s.types ≡ ts
    → oldest_first (drop i ss) ≡ oldest_first (drop j ss) ++ known_of ts
oldest_more ss i at j s ts same past is newest =
    ap (λ (k : ℕ). oldest_first (drop k ss)) same
    ∙ ap (λ (xs : List Stack). oldest_first xs) (drop_more ss at s (slice_get_within ss at s is))
    ∙ ap (λ (x : Stack). oldest_first (drop (at + 1) ss) ++ known_of (reverse x.types))
    (get_or_from_slice_get ss at s s is)
    ∙ ap (λ (k : ℕ). oldest_first (drop k ss) ++ known_of (reverse s.types)) (sym past)
    ∙ ap (λ (us : List (Option ValType)). oldest_first (drop j ss) ++ known_of us) newest
