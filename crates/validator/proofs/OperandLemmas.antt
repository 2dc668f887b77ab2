-- Where the operands of the innermost block are in the list of all groups.
use Rattle.std.proofs.Common.{◌≡◌, ℕ, ◌+◌, ◌≤◌, ◌<◌, nat_eq, Bool, true, false, List, [], ◌∷◌, ◌++◌, length, take, drop, map, reverse, Option, Some, None, IfSome, refl, sym, ap, subst, ◌∙◌, arith}
use Rattle.std.specs.Bool.{then_some}
use Rattle.std.proofs.lemmas.Bool.Decides.{nat_tests}
use Rattle.std.proofs.lemmas.List.{take-append-drop, append-nil, length-drop, length-reverse, take-map, take_at, drop_at, drop-map}
use Rattle.wasm_ast.specs.declared.values.ValType.{ValType}
use Rattle.validator.specs.declared.groups.Group.{Group}
use Rattle.validator.specs.Inside.Algorithm.{is_empty, knowns, pops}
use Rattle.validator.specs.Inside.Blocks.{Blocks, group_types, joined, types_of}

-- ---- no operands

never_empty : (xs : List (Option ValType)) (y : Option ValType) (ys : List (Option ValType))
    → is_empty (Some (xs ++ (y ∷ ys))) ≡ false
never_empty [] y ys = refl
never_empty (x ∷ xs) y ys = refl

none_left : (gs : List Group) → is_empty (Some (types_of gs)) ≡ nat_eq (length gs) 0
none_left [] = refl
none_left (g ∷ gs) =
    never_empty (types_of gs) g.newest (knowns (reverse g.below)) ∙ grind (arith, nat_tests)

pub empty_above : (gs : List Group) (n : ℕ) → n ≤ length gs
    → nat_eq (length gs) n ≡ is_empty (Some (types_of (drop n gs)))
empty_above gs n h =
    let above : length (drop n gs) + n ≡ length gs = omega (arith, length-drop n gs) in
    let counts : nat_eq (length gs) n ≡ nat_eq (length (drop n gs)) 0 = grind (arith, nat_tests) in
    counts ∙ sym (none_left (drop n gs))

pub no_groups : (gs : List Group) → types_of gs ≡ [] → gs ≡ []
no_groups [] h = refl
no_groups (g ∷ gs) h =
    let none : is_empty (Some (types_of gs ++ group_types g)) ≡ true =
    ap (λ (types : List (Option ValType)). is_empty (Some types)) h in
    let some = never_empty (types_of gs) g.newest (knowns (reverse g.below)) in
    cc

pub all_taken : (ts : List ValType) → pops true ts [] ≡ Some []
all_taken [] = refl
all_taken (t ∷ ts) = all_taken ts

first_of_none : (ts : List ValType) → 0 < length ts → pops false ts [] ≡ None
first_of_none [] h = absurd (omega (arith, h))
first_of_none (t ∷ ts) h = refl

pub none_taken : (ts : List ValType) → 0 < length ts → pops false (reverse ts) [] ≡ None
none_taken ts h = first_of_none (reverse ts) (omega (arith, h, length-reverse ts))

at_once : (u : Bool) (ts : List ValType)
    → IfSome (then_some {T = ℕ} u 0) (λ left. pops u (reverse ts) [] ≡ pops u (reverse (take left ts)) [])
at_once true ts = all_taken (reverse ts) ∙ sym (all_taken (reverse (take 0 ts)))
at_once false ts = tt

never : (u : Bool) (ts : List ValType) → 0 < length ts → then_some {T = ℕ} u 0 ≡ None → pops u (reverse ts) [] ≡ None
never true ts some h = cc
never false ts some h = none_taken ts some

-- where no operand is known, all are taken at once
pub taken_at_once : (u : Bool) (ts : List ValType) (xs : List (Option ValType)) (r : Option ℕ) → xs ≡ []
    → r ≡ then_some {T = ℕ} u 0 → IfSome r (λ left. pops u (reverse ts) xs ≡ pops u (reverse (take left ts)) xs)
taken_at_once u ts xs r none is =
    subst (λ (o : Option ℕ). IfSome o (λ left. pops u (reverse ts) xs ≡ pops u (reverse (take left ts)) xs)) (sym is)
    (subst
    (λ (ys : List (Option ValType)). IfSome (then_some {T = ℕ} u 0)
    (λ left. pops u (reverse ts) ys ≡ pops u (reverse (take left ts)) ys))
    (sym none) (at_once u ts))

-- or none
pub never_at_once : (u : Bool) (ts : List ValType) (xs : List (Option ValType)) (r : Option ℕ) → 0 < length ts
    → xs ≡ [] → r ≡ then_some {T = ℕ} u 0 → r ≡ None → pops u (reverse ts) xs ≡ None
never_at_once u ts xs r some none is h = ap (pops u (reverse ts)) none ∙ never u ts some (sym is ∙ h)

-- ---- the block outside

pub same_blocks : (o : Blocks) (outside : List (List (Option ValType))) (unreachable : Bool)
    (types : List (Option ValType)) → outside ≡ o.outside → unreachable ≡ o.stack.unreachable
    → types ≡ o.stack.types
    → record { outside = outside; stack = record { unreachable = unreachable; types = types } } ≡ o
same_blocks o outside unreachable types e f g =
    λ i. record { outside = e i; stack = record { unreachable = f i; types = g i } }

-- the operands of the block outside, where the innermost block has none
pub left_outside : (o : Blocks) (own : List (List (Option ValType))) (gs : List Group) (base height : ℕ)
    → map group_types (take base gs) ≡ o.outside ++ own → joined own ≡ o.stack.types
    → types_of (drop base gs) ≡ [] → height ≡ length o.outside
    → (map group_types (take height gs) ≡ o.outside) × (types_of (drop height gs) ≡ o.stack.types)
left_outside o own gs base height outside types none count =
    let taken : take base gs ≡ gs =
    sym (append-nil (take base gs))
    ∙ (ap (λ (hs : List Group). take base gs ++ hs) (sym (no_groups (drop base gs) none))
    ∙ take-append-drop base gs) in
    let whole : map group_types gs ≡ o.outside ++ own = ap (map group_types) (sym taken) ∙ outside in (
      sym (take-map group_types height gs)
          ∙ (ap (take height) whole ∙ take_at o.outside own height (sym count)),
      ap joined (sym (drop-map group_types height gs))
          ∙ (ap (λ groups. joined (drop height groups)) whole
          ∙ (ap joined (drop_at o.outside own height (sym count)) ∙ types)),
    )
