-- Which stacks of types a checker's stack represents, and what taking and putting operands does to them.
use Rattle.std.proofs.Common.{◌≡◌, Bool, true, false, List, [], ◌∷◌, ◌++◌, ◌&&◌, if◌then◌else◌, reverse, Option, Some, None, refl, sym, ap, subst, ◌∙◌}
use Rattle.wasm_ast.specs.declared.values.ValType.{ValType}
use Rattle.wasm_ast.specs.declared.values.ValType.TheVariants.{I32, I64}
use Rattle.validator.specs.Typing.{on_top, Replaces}
use Rattle.validator.specs.PlaceTypes.{Stack, IsOf, MatchTypes, Matches}
use Rattle.wasm_ast.specs.Types.{is_same_type}
use Rattle.wasm_ast.proofs.SameTypes.{same_type, itself}
use Rattle.validator.specs.Inside.Algorithm.{and_then, can_be, pop_any, below_type, pop, pops, knowns, with_types, replaced, nowhere, leaves, after_i32}

-- a check that passes has a typing that leads to each stack that its end represents
abbrev pub Sound : (Stack → Option Stack) → (List ValType → List ValType → Type 0) → Type 0
Sound check P =
    (s e : Stack) (new : List ValType) → check s ≡ Some e → Matches e new
    → (old : List ValType) × Matches s old × P old new

-- a check passes where there is a typing, and its end represents where that leads to
abbrev pub Exact : (Stack → Option Stack) → (List ValType → List ValType → Type 0) → Type 0
Exact check P =
    (s : Stack) (old new : List ValType) → Matches s old → P old new → (e : Stack) × (check s ≡ Some e) × Matches e new

-- ---- steps that may fail

pub passed :
    {A B : Type 0} (o : Option A) (f : A → Option B) (y : B) → and_then o f ≡ Some y
    → (x : A) × (o ≡ Some x) × (f x ≡ Some y)
passed None f y h = cc
passed (Some x) f y h = (x, refl, h)

pub passes : {A B : Type 0} (o : Option A) (f : A → Option B) (x : A) → o ≡ Some x → and_then o f ≡ f x
passes o f x h = ap (λ p. and_then p f) h

pub given :
    {A : Type 0} (b : Bool) (o : Option A) (y : A) → (if b then o else None) ≡ Some y → (b ≡ true) × (o ≡ Some y)
given true o y h = (refl, h)
given false o y h = cc

pub gives : {A : Type 0} (b : Bool) (o : Option A) → b ≡ true → (if b then o else None) ≡ o
gives true o h = refl
gives false o h = cc

-- ---- comparisons

pub both : (a b : Bool) → (a && b) ≡ true → (a ≡ true) × (b ≡ true)
both true b h = (refl, h)
both false b h = cc

-- ---- one operand

pub can_be_of : (t : ValType) (x : Option ValType) → can_be t x ≡ true → IsOf x t
can_be_of t None h = tt
can_be_of t (Some u) h = sym (same_type t u h)

pub of_can_be : (t : ValType) (x : Option ValType) → IsOf x t → can_be t x ≡ true
of_can_be t None h = refl
of_can_be t (Some u) h = subst (λ (v : ValType). is_same_type v u ≡ true) h (itself u)

abbrev Popped : Type 0
Popped = Option ValType × List (Option ValType)

pub pop_any_sound : (b : Bool) (xs ys : List (Option ValType)) (x : Option ValType) (t : ValType) (rest : List ValType)
    → pop_any b xs ≡ Some (x, ys) → IsOf x t → MatchTypes b ys rest → MatchTypes b xs (t ∷ rest)
pop_any_sound true [] ys x t rest h is m = tt
pop_any_sound false [] ys x t rest h is m = cc
pop_any_sound b (y ∷ xs) ys x t rest h is m =
    let one : Popped = (x, ys) in
    let two : Popped = (y, xs) in
    let e : one ≡ two = cc in (
      subst (λ (o : Option ValType). IsOf o t) (ap (λ (p : Popped). p.0) e) is,
      subst (λ (os : List (Option ValType)). MatchTypes b os rest) (ap (λ (p : Popped). p.1) e) m,
    )

pub pop_any_exact : (b : Bool) (xs : List (Option ValType)) (t : ValType) (rest : List ValType)
    → MatchTypes b xs (t ∷ rest)
    → (x : Option ValType) × (ys : List (Option ValType)) × (pop_any b xs ≡ Some (x, ys)) × IsOf x t
    × MatchTypes b ys rest
pop_any_exact true [] t rest m = (None, [], refl, tt, tt)
pop_any_exact false [] t rest m = cc
pop_any_exact b (y ∷ xs) t rest m = (y, xs, refl, m.0, m.1)

pub pop_sound : (b : Bool) (t : ValType) (xs ys : List (Option ValType)) (rest : List ValType)
    → pop b t xs ≡ Some ys → MatchTypes b ys rest → MatchTypes b xs (t ∷ rest)
pop_sound b t xs ys rest h m =
    let found = passed (pop_any b xs) (below_type t) ys h in
    let fits = given (can_be t found.0.0) (Some found.0.1) ys found.2 in
    let others : found.0.1 ≡ ys = cc in
    pop_any_sound b xs found.0.1 found.0.0 t rest found.1 (can_be_of t found.0.0 fits.0)
    (subst (λ (os : List (Option ValType)). MatchTypes b os rest) (sym others) m)

pub pop_exact : (b : Bool) (t : ValType) (xs : List (Option ValType)) (rest : List ValType)
    → MatchTypes b xs (t ∷ rest) → (ys : List (Option ValType)) × (pop b t xs ≡ Some ys) × MatchTypes b ys rest
pop_exact b t xs rest m =
    let found = pop_any_exact b xs t rest m in (
      found.1,
      passes (pop_any b xs) (below_type t) (found.0, found.1) found.2
          ∙ gives (can_be t found.0) (Some found.1) (of_can_be t found.0 found.3),
      found.4,
    )

-- ---- several operands

pub pops_sound : (b : Bool) (ts : List ValType) (xs ys : List (Option ValType)) (rest : List ValType)
    → pops b ts xs ≡ Some ys → MatchTypes b ys rest → MatchTypes b xs (ts ++ rest)
pops_sound b [] xs ys rest h m =
    let others : xs ≡ ys = cc in subst (λ (os : List (Option ValType)). MatchTypes b os rest) (sym others) m
pops_sound b (t ∷ ts) xs ys rest h m =
    let found = passed (pop b t xs) (pops b ts) ys h in
    pop_sound b t xs found.0 (ts ++ rest) found.1 (pops_sound b ts found.0 ys rest found.2 m)

pub pops_exact : (b : Bool) (ts : List ValType) (xs : List (Option ValType)) (rest : List ValType)
    → MatchTypes b xs (ts ++ rest) → (ys : List (Option ValType)) × (pops b ts xs ≡ Some ys) × MatchTypes b ys rest
pops_exact b [] xs rest m = (xs, refl, m)
pops_exact b (t ∷ ts) xs rest m =
    let first = pop_exact b t xs (ts ++ rest) m in
    let others = pops_exact b ts first.0 rest first.2 in
    (others.0, passes (pop b t xs) (pops b ts) first.0 first.1 ∙ others.1, others.2)

pub put_on : (b : Bool) (ts : List ValType) (xs : List (Option ValType)) (rest : List ValType)
    → MatchTypes b xs rest → MatchTypes b (knowns ts ++ xs) (ts ++ rest)
put_on b [] xs rest m = m
put_on b (t ∷ ts) xs rest m = (refl, put_on b ts xs rest m)

pub taken_off : (b : Bool) (ts : List ValType) (xs : List (Option ValType)) (new : List ValType)
    → MatchTypes b (knowns ts ++ xs) new → (rest : List ValType) × (new ≡ ts ++ rest) × MatchTypes b xs rest
taken_off b [] xs new m = (new, refl, m)
taken_off b (t ∷ ts) xs [] m = absurd m
taken_off b (t ∷ ts) xs (u ∷ new) m =
    let others = taken_off b ts xs new m.1 in
    let first = m.0 in
    let equal = others.1 in
    let whole : u ∷ new ≡ t ∷ (ts ++ others.0) = cc in
    (others.0, whole, others.2)

pub some_type : (x : Option ValType) → (t : ValType) × IsOf x t
some_type None = (I32, tt)
some_type (Some u) = (u, refl)

-- each of the checker's stacks represents a stack
pub some_types : (b : Bool) (xs : List (Option ValType)) → (ts : List ValType) × MatchTypes b xs ts
some_types true [] = ([], tt)
some_types false [] = ([], refl)
some_types b (x ∷ xs) =
    let first = some_type x in
    let others = some_types b xs in
    (first.0 ∷ others.0, (first.1, others.1))

-- ---- steps of the checker

on_rest : (takes gives rest new : List ValType) → new ≡ on_top gives rest → Replaces takes gives (on_top takes rest) new
on_rest takes gives rest new h = (rest, refl, h)

pub replaced_sound : (takes gives : List ValType) → Sound (replaced takes gives) (Replaces takes gives)
replaced_sound takes gives s e new h m =
    let b = s.unreachable in
    let put : List (Option ValType) → Option Stack = λ xs. Some (with_types s (knowns (reverse gives) ++ xs)) in
    let found = passed (pops b (reverse takes) s.types) put e h in
    let after : with_types s (knowns (reverse gives) ++ found.0) ≡ e = cc in
    let below = taken_off b (reverse gives) found.0 new (subst (λ (s : Stack). Matches s new) (sym after) m) in (
      on_top takes below.0,
      pops_sound b (reverse takes) s.types found.0 below.0 found.1 below.2,
      on_rest takes gives below.0 new below.1,
    )

pub replaced_exact : (takes gives : List ValType) → Exact (replaced takes gives) (Replaces takes gives)
replaced_exact takes gives s old new m h =
    let b = s.unreachable in
    let rest = h.0 in
    let put : List (Option ValType) → Option Stack = λ xs. Some (with_types s (knowns (reverse gives) ++ xs)) in
    let below =
    pops_exact b (reverse takes) s.types rest (subst (λ (ts : List ValType). MatchTypes b s.types ts) h.1 m) in
    let end = with_types s (knowns (reverse gives) ++ below.0) in (
      end,
      passes (pops b (reverse takes) s.types) put below.0 below.1,
      subst (λ (ts : List ValType). Matches end ts) (sym h.2) (put_on b (reverse gives) below.0 rest below.2),
    )

-- what takes types from the top and has a free stack afterwards
abbrev pub Takes : (takes : List ValType) → (old new : List ValType) → Type 0
Takes takes old new = (rest : List ValType) × (old ≡ on_top takes rest)

pub leaves_sound : (takes : List ValType) → Sound (leaves takes) (Takes takes)
leaves_sound takes s e new h m =
    let b = s.unreachable in
    let found = passed (pops b (reverse takes) s.types) (λ xs. Some nowhere) e h in
    let below = some_types b found.0 in
    (on_top takes below.0, pops_sound b (reverse takes) s.types found.0 below.0 found.1 below.1, (below.0, refl))

pub leaves_exact : (takes : List ValType) → Exact (leaves takes) (Takes takes)
leaves_exact takes s old new m h =
    let b = s.unreachable in
    let below =
    pops_exact b (reverse takes) s.types h.0 (subst (λ (ts : List ValType). MatchTypes b s.types ts) h.1 m) in
    (nowhere, passes (pops b (reverse takes) s.types) (λ xs. Some nowhere) below.0 below.1, tt)

-- an i32 on top, and then
abbrev pub AfterI32 : (List ValType → List ValType → Type 0) → (old new : List ValType) → Type 0
AfterI32 P old new = (between : List ValType) × (old ≡ I32 ∷ between) × P between new

pub after_i32_sound :
    (check : Stack → Option Stack) (P : List ValType → List ValType → Type 0) → Sound check P
    → Sound (after_i32 check) (AfterI32 P)
after_i32_sound check P sound s e new h m =
    let found = passed (pop s.unreachable I32 s.types) (λ xs. check (with_types s xs)) e h in
    let rest = sound (with_types s found.0) e new found.2 m in
    (I32 ∷ rest.0, pop_sound s.unreachable I32 s.types found.0 rest.0 found.1 rest.1, (rest.0, refl, rest.2))

pub after_i32_exact :
    (check : Stack → Option Stack) (P : List ValType → List ValType → Type 0) → Exact check P
    → Exact (after_i32 check) (AfterI32 P)
after_i32_exact check P exact s old new m h =
    let first = pop_exact s.unreachable I32 s.types h.0 (subst (λ (ts : List ValType). Matches s ts) h.1 m) in
    let rest = exact (with_types s first.0) h.0 new first.2 h.2 in
    (rest.0, passes (pop s.unreachable I32 s.types) (λ xs. check (with_types s xs)) first.0 first.1 ∙ rest.1, rest.2)
