-- The blocks that are open at places of a body, by its instructions.
use Rattle.std.proofs.Common.{◌≡◌, ℕ, suc, ◌+◌, ◌-◌, ◌<◌, ◌≤◌, if◌then◌else◌, nat_lt, Bool, true, false, List, [], ◌∷◌, ◌++◌, length, reverse, get_or, Option, Some, None, refl, sym, ap, subst, ◌∙◌, arith}
use Rattle.std.specs.Prelude.{slice_get, All, IfNone, IfSome}
use Rattle.std.specs.Global.{Vec}
use Rattle.std.specs.List.Sorted.{IsStrictlyIncreasing}
use Rattle.std.proofs.lemmas.Option.{slice_get-get_or}
use Rattle.std.proofs.lemmas.Bool.Decides.{nat_tests}
use Rattle.std.proofs.lemmas.List.{length-append, reverse-append}
use Rattle.std.specs.List.{AllZip}
use Rattle.wasm_ast.specs.declared.instr.BlockType.{BlockType}
use Rattle.wasm_ast.specs.Syntax.{Op, block, loop, if', Ops, next, count, ops_count}
use Rattle.validator.specs.Inside.EachPlace.{FoundAt, NextFrom, Follows, Finds}
use Rattle.validator.proofs.EachLemmas.{found_one, found_all, next_after, follows_one, follows_two, follows_at}
use Rattle.step_machine.specs.Places.{op_opens, opens_at}
use Rattle.debugger.specs.Inside.OpenBlocks.{arm_opens, HasBlocks}

-- ---- a stop

pub found_here : (all : ℕ → List ℕ) (places : List ℕ) (old new : List (Vec ℕ)) (place : ℕ) (b : Vec ℕ) (blocks : List ℕ)
    → slice_get places (length old) ≡ Some place → new ≡ old ++ b ∷ [] → b.items ≡ blocks → all place ≡ blocks
    → FoundAt (λ k x. HasBlocks (all k) x) places old → FoundAt (λ k x. HasBlocks (all k) x) places new
found_here all places old new place b blocks at more is known h =
    subst (FoundAt (λ k x. HasBlocks (all k) x) places) (sym more)
    (found_one (λ k x. HasBlocks (all k) x) places old place b at (is ∙ sym known) h)

pub next_from : (places : List ℕ) (old new : List (Vec ℕ)) (place : ℕ) (b : Vec ℕ) → IsStrictlyIncreasing places
    → slice_get places (length old) ≡ Some place → new ≡ old ++ b ∷ [] → NextFrom places new (place + 1)
next_from places old new place b rising at more later there =
    let count : length new ≡ length old + 1 = ap (λ (xs : List (Vec ℕ)). length xs) more ∙ length-append old (b ∷ []) in
    let less =
    next_after places (length old) place later rising at
    (subst (λ (n : ℕ). slice_get places n ≡ Some later) count there) in
    omega (arith, less)

-- ---- instructions

pub finds_inside : (o : Op) (outer : List ℕ) (places : List ℕ) (old mid new : List (Vec ℕ)) (number inside n : ℕ)
    (part : ℕ → List ℕ) → inside ≡ number + 1 → count o ≡ 1 + n
    → ((all : ℕ → List ℕ) → all number ≡ outer → FoundAt (λ k x. HasBlocks (all k) x) places old
    → FoundAt (λ k x. HasBlocks (all k) x) places mid)
    → ((k : ℕ) → op_opens o number outer (suc k) ≡ part k) → Finds HasBlocks part n inside places mid new
    → Finds HasBlocks (op_opens o number outer) (count o) number places old new
finds_inside o outer places old mid new number inside n part after counted stopped same finds all follows h =
    let at : number ≡ number + 0 = omega arith in
    let here : all number ≡ outer = ap all at ∙ follows 0 (omega (arith, counted)) in
    finds all
    (λ k less. let there : inside + k ≡ number + suc k = omega (arith, after) in
    ap all there ∙ follows (suc k) (omega (arith, less, counted)) ∙ same k)
    (stopped all here h)

pub opens_in_block :
    (o : Op) (b : BlockType) (body : Ops) (number first : ℕ) (outer : List ℕ) → o ≡ block b body → first ≡ number + 1
    → (k : ℕ) → op_opens o number outer (suc k) ≡ opens_at body first (number ∷ outer) k
opens_in_block o b body number first outer is after k =
    let same : suc number ≡ first = omega (arith, after) in
    ap (λ (p : Op). op_opens p number outer (suc k)) is ∙ ap (λ (n : ℕ). opens_at body n (number ∷ outer) k) same

pub opens_in_loop :
    (o : Op) (b : BlockType) (body : Ops) (number first : ℕ) (outer : List ℕ) → o ≡ loop b body → first ≡ number + 1
    → (k : ℕ) → op_opens o number outer (suc k) ≡ opens_at body first (number ∷ outer) k
opens_in_loop o b body number first outer is after k =
    let same : suc number ≡ first = omega (arith, after) in
    ap (λ (p : Op). op_opens p number outer (suc k)) is ∙ ap (λ (n : ℕ). opens_at body n (number ∷ outer) k) same

pub opens_in_if :
    (o : Op) (b : BlockType) (t e : Ops) (number first : ℕ) (outer : List ℕ) → o ≡ if' b t e → first ≡ number + 1
    → (k : ℕ) → op_opens o number outer (suc k) ≡ arm_opens t e number first outer k
opens_in_if o b t e number first outer is after k =
    let same : suc number ≡ first = omega (arith, after) in
    ap (λ (p : Op). op_opens p number outer (suc k)) is ∙ ap (λ (n : ℕ). arm_opens t e number n outer k) same

-- ---- parts one after the other

pub finds_two : (places : List ℕ) (old mid new : List (Vec ℕ)) (first between n m : ℕ) (one two : ℕ → List ℕ)
    → between ≡ first + n → Finds HasBlocks one n first places old mid → Finds HasBlocks two m between places mid new
    → Finds HasBlocks (λ k. if nat_lt k n then one k else two (k - n)) (n + m) first places old new
finds_two places old mid new first between n m one two same f g all follows h =
    g all (follows_at all (first + n) between m m two same refl (follows_two all first n m one two follows))
    (f all (follows_one all first n m one two follows) h)

pub follows_first : (o : Op) (os all_os : Ops) (at : ℕ) (outer : List ℕ) (all : ℕ → List ℕ) → all_os ≡ next o os
    → Follows all at (ops_count all_os) (opens_at all_os at outer) → Follows all at (count o) (op_opens o at outer)
follows_first o os all_os at outer all is follows =
    follows_one all at (count o) (ops_count os) (op_opens o at outer) (opens_at os (at + count o) outer)
    (subst (λ (xs : Ops). Follows all at (ops_count xs) (opens_at xs at outer)) is follows)

pub follows_others : (o : Op) (os all_os : Ops) (at after : ℕ) (outer : List ℕ) (all : ℕ → List ℕ) → all_os ≡ next o os
    → after ≡ at + count o → Follows all at (ops_count all_os) (opens_at all_os at outer)
    → Follows all after (ops_count os) (opens_at os after outer)
follows_others o os all_os at after outer all is past follows =
    subst (λ (n : ℕ). Follows all n (ops_count os) (opens_at os n outer)) (sym past)
    (follows_two all at (count o) (ops_count os) (op_opens o at outer) (opens_at os (at + count o) outer)
    (subst (λ (xs : Ops). Follows all at (ops_count xs) (opens_at xs at outer)) is follows))

-- the innermost block comes last
pub one_inside :
    (blocks more : List ℕ) (number : ℕ) → more ≡ blocks ++ number ∷ [] → reverse more ≡ number ∷ reverse blocks
one_inside blocks more number is = ap (λ (xs : List ℕ). reverse xs) is ∙ reverse-append blocks (number ∷ [])

pub finds_with :
    (part : List ℕ → ℕ → List ℕ) (blocks blocks' : List ℕ) (n first : ℕ) (places : List ℕ) (old new : List (Vec ℕ))
    → blocks' ≡ blocks → Finds HasBlocks (part blocks') n first places old new
    → Finds HasBlocks (part blocks) n first places old new
finds_with part blocks blocks' n first places old new same finds =
    subst (λ (x : List ℕ). Finds HasBlocks (part x) n first places old new) same finds

pub finds_arms :
    (t e : Ops) (number first between : ℕ) (blocks inner later places : List ℕ) (old mid new : List (Vec ℕ))
    → inner ≡ blocks ++ number ∷ [] → later ≡ inner → between ≡ first + ops_count t
    → Finds HasBlocks (opens_at t first (reverse inner)) (ops_count t) first places old mid
    → Finds HasBlocks (opens_at e between (reverse later)) (ops_count e) between places mid new
    → Finds HasBlocks (arm_opens t e number first (reverse blocks)) (ops_count t + ops_count e) first places old new
finds_arms t e number first between blocks inner later places old mid new more same past f g =
    let n = ops_count t in
    let m = ops_count e in
    let outer = number ∷ reverse blocks in
    let is = one_inside blocks inner number more in
    finds_two places old mid new first between n m (opens_at t first outer) (opens_at e (first + n) outer) past
    (subst (λ (x : List ℕ). Finds HasBlocks (opens_at t first x) n first places old mid) is f)
    (subst (λ (at : ℕ). Finds HasBlocks (opens_at e at outer) m between places mid new) past
    (subst (λ (x : List ℕ). Finds HasBlocks (opens_at e between x) m between places mid new)
    (ap (λ (xs : List ℕ). reverse xs) same ∙ is) g))

-- ---- whole bodies

no_more : (places : List ℕ) (found : List (Vec ℕ)) (n : ℕ) → All (λ place. place < n) places → NextFrom places found n
    → length found < length places → ⊥
no_more places found n inside from less =
    let here = slice_get-get_or places (length found) 0 less in
    let below : get_or places (length found) 0 < n = inside (length found) 0 less in
    let past = from (get_or places (length found) 0) here in
    omega (arith, below, past)

at_least : (k n : ℕ) → (k < n → ⊥) → n ≤ k
at_least k n h = of (nat_lt k n) refl
  where
    of : (b : Bool) → nat_lt k n ≡ b → n ≤ k
    of true is = absurd (h (grind (arith, nat_tests)))
    of false is = grind (arith, nat_tests)

all_found : (places : List ℕ) (found : List (Vec ℕ)) (n : ℕ) (r : Option ℕ) → All (λ place. place < n) places
    → IfNone r (length places ≤ length found) → IfSome r (λ after. after ≡ 0 + n)
    → IfSome r (λ after. NextFrom places found after) → length places ≤ length found
all_found places found n None inside done after from = done
all_found places found n (Some k) inside done after from =
    at_least (length found) (length places)
    (no_more places found n inside (subst (NextFrom places found) (after ∙ omega arith) from))

pub whole_found : (places : List ℕ) (found old : List (Vec ℕ)) (n : ℕ) (r : Option ℕ) (part : List ℕ → ℕ → List ℕ)
    (blocks : List ℕ) → All (λ place. place < n) places → old ≡ [] → blocks ≡ []
    → Finds HasBlocks (part blocks) n 0 places old found
    → IfNone r (length places ≤ length found) → IfSome r (λ after. after ≡ 0 + n)
    → IfSome r (λ after. NextFrom places found after) → AllZip (λ place b. b.items ≡ part [] place) places found
whole_found places found old n r part blocks inside none outer finds done after from =
    found_all (λ place b. b.items ≡ part [] place) places found (all_found places found n r inside done after from)
    (finds (part []) (λ k less. let same : 0 + k ≡ k = omega arith in ap (part []) same
    ∙ ap (λ (x : List ℕ). part x k) (sym outer))
    (subst (λ (x : List (Vec ℕ)). FoundAt (λ place b. b.items ≡ part [] place) places x) (sym none) tt))
