-- The checker's answers on sequences of instructions are sound and exact.
use Rattle.std.proofs.Common.{◌≡◌, Bool, true, false, ◌&&◌, if◌then◌else◌, List, [], ◌∷◌, ◌++◌, reverse, Option, Some, None, refl, sym, ap, subst, ◌∙◌}
use Rattle.std.proofs.lemmas.List.{append-nil}
use Rattle.wasm_ast.specs.declared.values.ValType.{ValType}
use Rattle.wasm_ast.specs.declared.values.FuncType.{FuncType}
use Rattle.wasm_ast.specs.declared.instr.BlockType.{BlockType}
use Rattle.wasm_ast.specs.Syntax.{Op, simple, block, loop, if', Ops, stop, next}
use Rattle.wasm_ast.specs.Types.{block_type}
use Rattle.validator.specs.Typing.{Context, under, Applies, OpTyped, Typed}
use Rattle.validator.specs.PlaceTypes.{Stack, MatchTypes, Matches}
use Rattle.validator.specs.Inside.Algorithm.{and_then, pops, knowns, with_types, replaced, start, is_empty, ends, after_i32, encloses, check_op, check_ops}
use Rattle.validator.proofs.StackMatching.{Sound, Exact, both, passed, passes, given, pops_sound, pops_exact, put_on, taken_off, replaced_sound, replaced_exact, AfterI32, after_i32_sound, after_i32_exact}
use Rattle.validator.proofs.SimpleExact.{named_sound, named_exact, simple_sound, simple_exact}

empty : (o : Option (List (Option ValType))) → is_empty o ≡ true → o ≡ Some []
empty None h = cc
empty (Some []) h = refl
empty (Some (x ∷ xs)) h = cc

none_matches : (b : Bool) → MatchTypes b [] []
none_matches true = tt
none_matches false = refl

matches_none : (b : Bool) (xs : List (Option ValType)) → MatchTypes b xs [] → xs ≡ []
matches_none true [] m = refl
matches_none false [] m = refl
matches_none b (x ∷ xs) m = absurd m

ends_sound : (ts : List ValType) (e : Stack) → ends ts (Some e) ≡ true → Matches e (reverse ts)
ends_sound ts e h =
    let b = e.unreachable in
    subst (λ (us : List ValType). Matches e us) (append-nil (reverse ts))
    (pops_sound b (reverse ts) e.types [] [] (empty (pops b (reverse ts) e.types) h) (none_matches b))

ends_exact : (ts : List ValType) (e : Stack) → Matches e (reverse ts) → ends ts (Some e) ≡ true
ends_exact ts e m =
    let b = e.unreachable in
    let found =
    pops_exact b (reverse ts) e.types []
    (subst (λ (us : List ValType). Matches e us) (sym (append-nil (reverse ts))) m) in
    ap is_empty (found.1 ∙ ap Some (matches_none b found.0 found.2))

pub start_matches : (ts : List ValType) → Matches (start ts) (reverse ts)
start_matches ts =
    let both : MatchTypes false (knowns (reverse ts) ++ []) (reverse ts ++ []) = put_on false (reverse ts) [] [] refl in
    subst (λ (us : List ValType). Matches (start ts) us) (append-nil (reverse ts))
    (subst (λ (xs : List (Option ValType)). MatchTypes false xs (reverse ts ++ []))
    (append-nil (knowns (reverse ts))) both)

pub start_is : (ts us : List ValType) → Matches (start ts) us → us ≡ reverse ts
start_is ts us m =
    let found =
    taken_off false (reverse ts) [] us
    (subst (λ (xs : List (Option ValType)). MatchTypes false xs us) (sym (append-nil (knowns (reverse ts)))) m)
    in
    found.1 ∙ (ap (λ (vs : List ValType). reverse ts ++ vs) found.2 ∙ append-nil (reverse ts))

ended :
    (ts : List ValType) (o : Option Stack) → ends ts o ≡ true → (e : Stack) × (o ≡ Some e) × (ends ts (Some e) ≡ true)
ended ts None h = cc
ended ts (Some e) h = (e, refl, h)

-- a body that begins with the block's parameters and ends with its results
abbrev BodyTyped : Context → Ops → FuncType → Type 0
BodyTyped c os t = Typed c os (reverse t.params) (reverse t.results)

abbrev passes_body : Context → Ops → FuncType → Bool
passes_body c os t = ends t.results (check_ops c os (start t.params))

pub body_sound :
    (c : Context) (os : Ops) (t : FuncType) → Sound (check_ops c os) (Typed c os) → passes_body c os t ≡ true
    → BodyTyped c os t
body_sound c os t sound h =
    let end = ended t.results (check_ops c os (start t.params)) h in
    let found = sound (start t.params) end.0 (reverse t.results) end.1 (ends_sound t.results end.0 end.2) in
    subst (λ (us : List ValType). Typed c os us (reverse t.results)) (start_is t.params found.0 found.1) found.2

pub body_exact :
    (c : Context) (os : Ops) (t : FuncType) → Exact (check_ops c os) (Typed c os) → BodyTyped c os t
    → passes_body c os t ≡ true
body_exact c os t exact h =
    let found = exact (start t.params) (reverse t.params) (reverse t.results) (start_matches t.params) h in
    ap (ends t.results) found.1 ∙ ends_exact t.results found.0 found.2

abbrev Encloses : FuncType → Bool → (old new : List ValType) → Type 0
Encloses t bodies old new = (bodies ≡ true) × Applies t old new

abbrev closes : FuncType → Bool → Stack → List (Option ValType) → Option Stack
closes t bodies s xs = if bodies then Some (with_types s (knowns (reverse t.results) ++ xs)) else None

encloses_sound : (t : FuncType) (bodies : Bool) → Sound (encloses t bodies) (Encloses t bodies)
encloses_sound t bodies s e new h m =
    let found = passed (pops s.unreachable (reverse t.params) s.types) (closes t bodies s) e h in
    let inside = given bodies (Some (with_types s (knowns (reverse t.results) ++ found.0))) e found.2 in
    let whole : replaced t.params t.results s ≡ Some e =
    passes (pops s.unreachable (reverse t.params) s.types)
    (λ xs. Some (with_types s (knowns (reverse t.results) ++ xs))) found.0 found.1 ∙ inside.1 in
    let old = replaced_sound t.params t.results s e new whole m in
    (old.0, old.1, (inside.0, old.2))

encloses_exact : (t : FuncType) (bodies : Bool) → Exact (encloses t bodies) (Encloses t bodies)
encloses_exact t bodies s old new m h =
    let found = replaced_exact t.params t.results s old new m h.1 in
    (found.0, ap (λ b. encloses t b s) h.0 ∙ found.1, found.2)

block_sound :
    (c : Context) (b : BlockType) (bodies : FuncType → Bool)
    → Sound (λ s. and_then (block_type c.types b) (λ t. encloses t (bodies t) s))
    (λ old new. (t : FuncType) × (block_type c.types b ≡ Some t) × Encloses t (bodies t) old new)
block_sound c b bodies =
    named_sound (block_type c.types b) (λ t. encloses t (bodies t)) (λ t. Encloses t (bodies t))
    (λ t. encloses_sound t (bodies t))

block_exact :
    (c : Context) (b : BlockType) (bodies : FuncType → Bool)
    → Exact (λ s. and_then (block_type c.types b) (λ t. encloses t (bodies t) s))
    (λ old new. (t : FuncType) × (block_type c.types b ≡ Some t) × Encloses t (bodies t) old new)
block_exact c b bodies =
    named_exact (block_type c.types b) (λ t. encloses t (bodies t)) (λ t. Encloses t (bodies t))
    (λ t. encloses_exact t (bodies t))

if_sound :
    (c : Context) (b : BlockType) (bodies : FuncType → Bool)
    → Sound (λ s. and_then (block_type c.types b) (λ t. after_i32 (encloses t (bodies t)) s))
    (λ old new. (t : FuncType) × (block_type c.types b ≡ Some t) × AfterI32 (Encloses t (bodies t)) old new)
if_sound c b bodies =
    named_sound (block_type c.types b) (λ t. after_i32 (encloses t (bodies t))) (λ t. AfterI32 (Encloses t (bodies t)))
    (λ t. after_i32_sound (encloses t (bodies t)) (Encloses t (bodies t)) (encloses_sound t (bodies t)))

if_exact :
    (c : Context) (b : BlockType) (bodies : FuncType → Bool)
    → Exact (λ s. and_then (block_type c.types b) (λ t. after_i32 (encloses t (bodies t)) s))
    (λ old new. (t : FuncType) × (block_type c.types b ≡ Some t) × AfterI32 (Encloses t (bodies t)) old new)
if_exact c b bodies =
    named_exact (block_type c.types b) (λ t. after_i32 (encloses t (bodies t))) (λ t. AfterI32 (Encloses t (bodies t)))
    (λ t. after_i32_exact (encloses t (bodies t)) (Encloses t (bodies t)) (encloses_exact t (bodies t)))

mutual
  pub ops_sound : (c : Context) (os : Ops) → Sound (check_ops c os) (Typed c os)
  ops_sound c stop s e new h m = let same : s ≡ e = cc in (new, subst (λ (s : Stack). Matches s new) (sym same) m, refl)
  ops_sound c (next o os) s e new h m =
      let found = passed (check_op c o s) (check_ops c os) e h in
      let rest = ops_sound c os found.0 e new found.2 m in
      let first = op_sound c o s found.0 rest.0 found.1 rest.1 in
      (first.0, first.1, (rest.0, first.2, rest.2))

  pub op_sound : (c : Context) (o : Op) → Sound (check_op c o) (OpTyped c o)
  op_sound c (simple i) s e new h m = simple_sound c i s e new h m
  op_sound c (block b body) s e new h m =
      let found = block_sound c b (λ t. passes_body (under c t.results) body t) s e new h m in
      let t = found.2.0 in (
        found.0,
        found.1,
        (
          t,
          found.2.1,
          found.2.2.1,
          body_sound (under c t.results) body t (ops_sound (under c t.results) body) found.2.2.0,
        ),
      )
  op_sound c (loop b body) s e new h m =
      let found = block_sound c b (λ t. passes_body (under c t.params) body t) s e new h m in
      let t = found.2.0 in (
        found.0,
        found.1,
        (
          t,
          found.2.1,
          found.2.2.1,
          body_sound (under c t.params) body t (ops_sound (under c t.params) body) found.2.2.0,
        ),
      )
  op_sound c (if' b first second) s e new h m =
      let found =
      if_sound c b
      (λ t. passes_body (under c t.results) first t && passes_body (under c t.results) second t) s e new h m in
      let t = found.2.0 in
      let p = found.2.2 in
      let arms = both (passes_body (under c t.results) first t) (passes_body (under c t.results) second t) p.2.0 in (
        found.0,
        found.1,
        (
          t,
          p.0,
          p.1,
          found.2.1,
          p.2.1,
          body_sound (under c t.results) first t (ops_sound (under c t.results) first) arms.0,
          body_sound (under c t.results) second t (ops_sound (under c t.results) second) arms.1,
        ),
      )

mutual
  pub ops_exact : (c : Context) (os : Ops) → Exact (check_ops c os) (Typed c os)
  ops_exact c stop s old new m h = (s, refl, subst (λ (ts : List ValType). Matches s ts) h m)
  ops_exact c (next o os) s old new m h =
      let first = op_exact c o s old h.0 m h.1 in
      let rest = ops_exact c os first.0 h.0 new first.2 h.2 in
      (rest.0, passes (check_op c o s) (check_ops c os) first.0 first.1 ∙ rest.1, rest.2)

  pub op_exact : (c : Context) (o : Op) → Exact (check_op c o) (OpTyped c o)
  op_exact c (simple i) s old new m h = simple_exact c i s old new m h
  op_exact c (block b body) s old new m h =
      let t = h.0 in
      block_exact c b (λ t. passes_body (under c t.results) body t) s old new m
      (t, h.1, (body_exact (under c t.results) body t (ops_exact (under c t.results) body) h.3, h.2))
  op_exact c (loop b body) s old new m h =
      let t = h.0 in
      block_exact c b (λ t. passes_body (under c t.params) body t) s old new m
      (t, h.1, (body_exact (under c t.params) body t (ops_exact (under c t.params) body) h.3, h.2))
  op_exact c (if' b first second) s old new m h =
      let t = h.0 in
      let one = body_exact (under c t.results) first t (ops_exact (under c t.results) first) h.5 in
      let two = body_exact (under c t.results) second t (ops_exact (under c t.results) second) h.6 in
      if_exact c b
      (λ t. passes_body (under c t.results) first t && passes_body (under c t.results) second t) s old new m
      (t, h.3, (h.1, h.2, (ap (λ b. b && passes_body (under c t.results) second t) one ∙ two, h.4)))
