-- A walk that stops at some places: what is found at each.
use Rattle.std.proofs.Common.{map, drop, reverse, get_or, ◌≡◌, ℕ, zero, suc, ◌+◌, ◌-◌, ◌<◌, ◌≤◌, if◌then◌else◌, nat_lt, Bool, true, false, List, [], ◌∷◌, ◌++◌, length, Option, Some, None, refl, sym, ap, subst, ◌∙◌, arith}
use Rattle.std.specs.Prelude.{slice_get, All, IfNone, IfSome}
use Rattle.std.specs.List.Sorted.{IsStrictlyIncreasing}
use Rattle.std.proofs.lemmas.Option.{slice_get_within, slice_get-get_or, get_or_from_slice_get}
use Rattle.std.proofs.lemmas.Bool.Decides.{nat_tests}
use Rattle.std.proofs.lemmas.List.{length-append, drop_more}
use Rattle.std.specs.List.{AllZip}
use Rattle.wasm_ast.specs.declared.values.ValType.{ValType}
use Rattle.wasm_ast.specs.declared.values.ValType.TheVariants.{I32}
use Rattle.wasm_ast.specs.declared.values.FuncType.{FuncType}
use Rattle.wasm_ast.specs.declared.instr.BlockType.{BlockType}
use Rattle.wasm_ast.specs.declared.instr.Instr.{Instr}
use Rattle.wasm_ast.specs.Syntax.{Op, block, loop, Ops, next, count, ops_count, ops_of}
use Rattle.wasm_ast.specs.View.{op_of}
use Rattle.wasm_ast.specs.Types.{block_type}
use Rattle.validator.specs.Typing.{Context, under}
use Rattle.validator.specs.PlaceTypes.{Stack, Known}
use Rattle.validator.specs.Inside.Algorithm.{and_then, with_types, pop, pops, after_i32, start, check_op, check_ops}
use Rattle.validator.specs.Inside.Blocks.{Blocks, KeepsRest}
use Rattle.validator.specs.Inside.PlaceWalk.{below, ops_known, op_known}
use Rattle.validator.specs.Inside.EachPlace.{FoundAt, NextFrom, Follows, Finds, IsKnown}

-- ---- lists of what is found

some_same : {A : Type 0} (x y : A) → Some x ≡ Some y → x ≡ y
some_same x y h = cc

-- one more, at the next place
pub found_one :
    {A : Type 0} (IsAt : ℕ → A → Type 0) (places : List ℕ) (found : List A) (place : ℕ) (x : A)
    → slice_get places (length found) ≡ Some place → IsAt place x → FoundAt IsAt places found
    → FoundAt IsAt places (found ++ x ∷ [])
found_one IsAt [] [] place x at is h = cc
found_one IsAt [] (y ∷ found) place x at is h = absurd h
found_one {A} IsAt (q ∷ places) [] place x at is h =
    (subst (λ (p : ℕ). IsAt p x) (sym (some_same q place at)) is, tt)
found_one IsAt (q ∷ places) (y ∷ found) place x at is h = (h.0, found_one IsAt places found place x at is h.1)

-- all of them
pub found_all :
    {A : Type 0} (IsAt : ℕ → A → Type 0) (places : List ℕ) (found : List A) → length places ≤ length found
    → FoundAt IsAt places found → AllZip IsAt places found
found_all IsAt [] [] all h = tt
found_all IsAt [] (x ∷ found) all h = absurd h
found_all IsAt (p ∷ places) [] all h = absurd (omega (arith, all))
found_all IsAt (p ∷ places) (x ∷ found) all h = (h.0, found_all IsAt places found (omega (arith, all)) h.1)

-- after a place come the numbers after it
pub next_after :
    (places : List ℕ) (n place later : ℕ) → IsStrictlyIncreasing places → slice_get places n ≡ Some place
    → slice_get places (n + 1) ≡ Some later → place < later
next_after places n place later rising here there =
    let one = get_or_from_slice_get places n place 0 here in
    let two = get_or_from_slice_get places (n + 1) later 0 there in
    let less = rising n (slice_get_within places (n + 1) later there) in
    omega (arith, one, two, less)

-- ---- parts of a body

below_is : {B : Type 0} (k n : ℕ) (x y : B) → k < n → (if nat_lt k n then x else y) ≡ x
below_is k n x y h =
    let test : nat_lt k n ≡ true = grind (arith, nat_tests) in ap (λ (b : Bool). if b then x else y) test

past_is : {B : Type 0} (k n : ℕ) (x y : B) → n ≤ k → (if nat_lt k n then x else y) ≡ y
past_is k n x y h =
    let test : nat_lt k n ≡ false = grind (arith, nat_tests) in ap (λ (b : Bool). if b then x else y) test

-- two parts in one
abbrev pub joined_parts : {B : Type 0} → (n : ℕ) → (one two : ℕ → B) → ℕ → B
joined_parts n one two k = if nat_lt k n then one k else two (k - n)

pub follows_one :
    {B : Type 0} (all : ℕ → B) (first n m : ℕ) (one two : ℕ → B)
    → Follows all first (n + m) (joined_parts n one two) → Follows all first n one
follows_one all first n m one two h k less = h k (omega (arith, less)) ∙ below_is k n (one k) (two (k - n)) less

pub follows_two :
    {B : Type 0} (all : ℕ → B) (first n m : ℕ) (one two : ℕ → B)
    → Follows all first (n + m) (joined_parts n one two) → Follows all (first + n) m two
follows_two all first n m one two h k less =
    let at : first + n + k ≡ first + (n + k) = omega arith in
    let back : n + k - n ≡ k = omega arith in
    ap all at ∙ h (n + k) (omega (arith, less))
    ∙ past_is (n + k) n (one (n + k)) (two (n + k - n)) (omega arith) ∙ ap two back

pub follows_as :
    {B : Type 0} (all : ℕ → B) (first n : ℕ) (one two : ℕ → B) → ((k : ℕ) → k < n → one k ≡ two k)
    → Follows all first n one → Follows all first n two
follows_as all first n one two same h k less = h k less ∙ same k less

pub follows_at :
    {B : Type 0} (all : ℕ → B) (first at n m : ℕ) (one : ℕ → B) → at ≡ first → m ≡ n
    → Follows all first n one → Follows all at m one
follows_at all first at n m one same count h k less =
    ap (λ (i : ℕ). all (i + k)) same ∙ h k (omega (arith, less, count))

-- ---- sequences

pub known_parts :
    (c : Context) (outs : List Stack) (o : Op) (os : Ops) (s u : Stack) → check_op c o s ≡ Some u → (k : ℕ)
    → ops_known c outs (next o os) s k
    ≡ joined_parts (count o) (op_known c outs o s) (ops_known c outs os u) k
known_parts c outs o os s u is k =
    ap (λ (v : Option Stack). if nat_lt k (count o) then op_known c outs o s k
    else and_then v (λ w. ops_known c outs os w (k - count o))) is

-- ---- a stop

pub found_here :
    (all : ℕ → Option Known) (places : List ℕ) (old new : List Known) (place : ℕ) (t here : Known)
    → slice_get places (length old) ≡ Some place → new ≡ old ++ t ∷ [] → t ≡ here → all place ≡ Some here
    → FoundAt (λ k x. IsKnown (all k) x) places old → FoundAt (λ k x. IsKnown (all k) x) places new
found_here all places old new place t here at more is known h =
    subst (FoundAt (λ k x. IsKnown (all k) x) places) (sym more)
    (found_one (λ k x. IsKnown (all k) x) places old place t at (known ∙ ap Some (sym is)) h)

pub next_from :
    (places : List ℕ) (old new : List Known) (place : ℕ) (t : Known) → IsStrictlyIncreasing places
    → slice_get places (length old) ≡ Some place → new ≡ old ++ t ∷ [] → NextFrom places new (place + 1)
next_from places old new place t rising at more later there =
    let count : length new ≡ length old + 1 =
    ap (λ (xs : List Known). length xs) more ∙ length-append old (t ∷ []) in
    let less =
    next_after places (length old) place later rising at
    (subst (λ (n : ℕ). slice_get places n ≡ Some later) count there) in
    omega (arith, less)

-- ---- instructions

pub finds_inside :
    (c : Context) (outs : List Stack) (o : Op) (s : Stack) (places : List ℕ) (old mid new : List Known)
    (number inside n : ℕ) (part : ℕ → Option Known) → inside ≡ number + 1 → count o ≡ 1 + n
    → ((all : ℕ → Option Known) → all number ≡ Some (record { labels = c.labels; stacks = s ∷ outs })
    → FoundAt (λ k x. IsKnown (all k) x) places old → FoundAt (λ k x. IsKnown (all k) x) places mid)
    → ((k : ℕ) → op_known c outs o s (suc k) ≡ part k) → Finds IsKnown part n inside places mid new
    → Finds IsKnown (op_known c outs o s) (count o) number places old new
finds_inside c outs o s places old mid new number inside n part after counted stopped same finds all follows h =
    let at : number ≡ number + 0 = omega arith in
    let here : all number ≡ Some (record { labels = c.labels; stacks = s ∷ outs }) =
    ap all at ∙ follows 0 (omega (arith, counted)) in
    finds all
    (λ k less. let there : inside + k ≡ number + suc k = omega (arith, after) in
    ap all there ∙ follows (suc k) (omega (arith, less, counted)) ∙ same k)
    (stopped all here h)

pub known_in_block :
    (c : Context) (outs : List Stack) (o : Op) (s : Stack) (b : BlockType) (body : Ops) (t : FuncType)
    → o ≡ block b body → block_type c.types b ≡ Some t → (k : ℕ)
    → op_known c outs o s (suc k)
    ≡ and_then (below t s) (λ u. ops_known (under c t.results) (u ∷ outs) body (start t.params) k)
known_in_block c outs o s b body t is named k =
    ap (λ (o : Op). op_known c outs o s (suc k)) is
    ∙ ap (λ (v : Option FuncType). and_then v (λ t. and_then (below t s)
    (λ u. ops_known (under c t.results) (u ∷ outs) body (start t.params) k))) named

pub known_in_loop :
    (c : Context) (outs : List Stack) (o : Op) (s : Stack) (b : BlockType) (body : Ops) (t : FuncType)
    → o ≡ loop b body → block_type c.types b ≡ Some t → (k : ℕ)
    → op_known c outs o s (suc k)
    ≡ and_then (below t s) (λ u. ops_known (under c t.params) (u ∷ outs) body (start t.params) k)
known_in_loop c outs o s b body t is named k =
    ap (λ (o : Op). op_known c outs o s (suc k)) is
    ∙ ap (λ (v : Option FuncType). and_then v (λ t. and_then (below t s)
    (λ u. ops_known (under c t.params) (u ∷ outs) body (start t.params) k))) named

-- ---- arms

-- a part that depends on what is open
abbrev pub Part : Type 0
Part = List (List ValType) → Blocks → List Blocks → ℕ → Option Known

pub finds_same :
    (part : Part) (labels labels' : List (List ValType)) (o o' : Blocks) (outer outer' : List Blocks) (n first : ℕ)
    (places : List ℕ) (old new : List Known) → labels' ≡ labels → o' ≡ o → outer' ≡ outer
    → Finds IsKnown (part labels' o' outer') n first places old new
    → Finds IsKnown (part labels o outer) n first places old new
finds_same part labels labels' o o' outer outer' n first places old new one two three finds =
    subst (λ (x : List (List ValType)). Finds IsKnown (part x o outer) n first places old new) one
    (subst (λ (x : Blocks). Finds IsKnown (part labels' x outer) n first places old new) two
    (subst (λ (x : List Blocks). Finds IsKnown (part labels' o' x) n first places old new) three finds))

pub finds_arms :
    (places : List ℕ) (old mid new : List Known) (first between n m : ℕ) (opens : Option Stack) (u : Stack)
    (one two : Stack → ℕ → Option Known) → opens ≡ Some u → between ≡ first + n
    → Finds IsKnown (one u) n first places old mid → Finds IsKnown (two u) m between places mid new
    → Finds IsKnown (λ k. and_then opens (λ u. if nat_lt k n then one u k else two u (k - n))) (n + m) first places
    old new
finds_arms places old mid new first between n m opens u one two is same f g all follows h =
    let both : Follows all first (n + m) (joined_parts n (one u) (two u)) =
    λ k less. follows k less
    ∙ ap (λ (v : Option Stack). and_then v (λ w. if nat_lt k n then one w k else two w (k - n))) is in
    g all (follows_at all (first + n) between m m (two u) same refl (follows_two all first n m (one u) (two u) both))
    (f all (follows_one all first n m (one u) (two u) both) h)

pub if_opens :
    (t : FuncType) (a b d : Blocks) → pop a.stack.unreachable I32 a.stack.types ≡ Some b.stack.types → KeepsRest a b
    → pops b.stack.unreachable (reverse t.params) b.stack.types ≡ Some d.stack.types → KeepsRest b d
    → after_i32 (below t) a.stack ≡ Some d.stack
if_opens t a b d popped one all two =
    let first : with_types a.stack b.stack.types ≡ b.stack = sym (ap (λ (x : Blocks). x.stack) one) in
    let second : with_types b.stack d.stack.types ≡ d.stack = sym (ap (λ (x : Blocks). x.stack) two) in
    ap (λ (v : Option (List (Option ValType))). and_then v (λ xs. below t (with_types a.stack xs))) popped
    ∙ ap (below t) first
    ∙ ap (λ (v : Option (List (Option ValType))). and_then v (λ xs. Some (with_types b.stack xs))) all
    ∙ ap Some second

-- ---- the instructions of a sequence

pub left_is :
    (is : List Instr) (k : ℕ) (i : Instr) → k < length is → i ≡ get_or is k i
    → ops_of (map op_of (drop k is)) ≡ next (op_of i) (ops_of (map op_of (drop (k + 1) is)))
left_is is k i within here =
    ap (λ (xs : List Instr). ops_of (map op_of xs)) (drop_more is k i within)
    ∙ ap (λ (x : Instr). next (op_of x) (ops_of (map op_of (drop (k + 1) is)))) (sym here)

pub none_left : (is : List Instr) (k : ℕ) → length is ≤ k → drop k is ≡ []
none_left [] zero h = refl
none_left [] (suc k) h = refl
none_left (i ∷ is) zero h = absurd (omega (arith, h))
none_left (i ∷ is) (suc k) h = none_left is k (omega (arith, h))

-- the first of a sequence, whether or not it leads to the others
pub follows_first :
    (c : Context) (outs : List Stack) (o : Op) (os all_os : Ops) (s : Stack) (all : ℕ → Option Known) (at : ℕ)
    → all_os ≡ next o os → Follows all at (ops_count all_os) (ops_known c outs all_os s)
    → Follows all at (count o) (op_known c outs o s)
follows_first c outs o os all_os s all at is follows =
    follows_one all at (count o) (ops_count os) (op_known c outs o s)
    (λ j. and_then (check_op c o s) (λ u. ops_known c outs os u j))
    (subst (λ (xs : Ops). Follows all at (ops_count xs) (ops_known c outs xs s)) is follows)

pub follows_others :
    (c : Context) (outs : List Stack) (o : Op) (os all_os : Ops) (s u : Stack) (all : ℕ → Option Known) (at after : ℕ)
    → all_os ≡ next o os → after ≡ at + count o → check_op c o s ≡ Some u
    → Follows all at (ops_count all_os) (ops_known c outs all_os s)
    → Follows all after (ops_count os) (ops_known c outs os u)
follows_others c outs o os all_os s u all at after is past leads follows =
    follows_at all (at + count o) after (ops_count os) (ops_count os) (ops_known c outs os u) past refl
    (follows_two all at (count o) (ops_count os) (op_known c outs o s) (ops_known c outs os u)
    (follows_as all at (count o + ops_count os) (ops_known c outs (next o os) s)
    (joined_parts (count o) (op_known c outs o s) (ops_known c outs os u))
    (λ k less. known_parts c outs o os s u leads k)
    (subst (λ (xs : Ops). Follows all at (ops_count xs) (ops_known c outs xs s)) is follows)))

pub checked_others :
    (c : Context) (o : Op) (os all_os : Ops) (s u : Stack) → all_os ≡ next o os → check_op c o s ≡ Some u
    → check_ops c os u ≡ check_ops c all_os s
checked_others c o os all_os s u is leads =
    sym (ap (λ (xs : Ops). check_ops c xs s) is ∙ ap (λ (v : Option Stack). and_then v (check_ops c os)) leads)

-- ---- whole bodies

no_more :
    (places : List ℕ) (found : List Known) (n : ℕ) → All (λ place. place < n) places → NextFrom places found n
    → length found < length places → ⊥
no_more places found n inside from less =
    let here = slice_get-get_or places (length found) 0 less in
    let below : get_or places (length found) 0 < n = inside (length found) 0 less in
    let past = from (get_or places (length found) 0) here in
    omega (arith, below, past)

at_least : (k n : ℕ) → (k < n → ⊥) → n ≤ k
at_least k n h = of (nat_lt k n) refl
  where
    of : (b : Bool) → nat_lt k n ≡ b → n ≤ k
    of true is = absurd (h (grind (arith, nat_tests)))
    of false is = grind (arith, nat_tests)

all_found :
    (places : List ℕ) (found : List Known) (n : ℕ) (r : Option ℕ) → All (λ place. place < n) places
    → IfNone r (length places ≤ length found) → IfSome r (λ after. after ≡ 0 + n)
    → IfSome r (λ after. NextFrom places found after) → length places ≤ length found
all_found places found n None inside done after from = done
all_found places found n (Some k) inside done after from =
    at_least (length found) (length places)
    (no_more places found n inside (subst (NextFrom places found) (after ∙ omega arith) from))

pub whole_found :
    (places : List ℕ) (found : List Known) (n : ℕ) (r : Option ℕ) (known : ℕ → Option Known)
    → All (λ place. place < n) places → Finds IsKnown known n 0 places [] found
    → IfNone r (length places ≤ length found) → IfSome r (λ after. after ≡ 0 + n)
    → IfSome r (λ after. NextFrom places found after)
    → AllZip (λ place t. known place ≡ Some t) places found
whole_found places found n r known inside finds done after from =
    found_all (λ place t. known place ≡ Some t) places found (all_found places found n r inside done after from)
    (finds known (λ k less. let same : 0 + k ≡ k = omega arith in ap known same) tt)

-- from the start of a body
pub finds_from :
    (part : List (List ValType) → List Blocks → Stack → ℕ → Option Known) (labels labels' : List (List ValType))
    (outer : List Blocks) (s s' : Stack) (n : ℕ) (places : List ℕ) (old new : List Known) → labels ≡ labels'
    → outer ≡ [] → s ≡ s' → old ≡ [] → Finds IsKnown (part labels outer s) n 0 places old new
    → Finds IsKnown (part labels' [] s') n 0 places [] new
finds_from part labels labels' outer s s' n places old new one two three none finds =
    subst (λ (x : List (List ValType)). Finds IsKnown (part x [] s') n 0 places [] new) one
    (subst (λ (x : List Blocks). Finds IsKnown (part labels x s') n 0 places [] new) two
    (subst (λ (x : Stack). Finds IsKnown (part labels outer x) n 0 places [] new) three
    (subst (λ (x : List Known). Finds IsKnown (part labels outer s) n 0 places x new) none finds)))
