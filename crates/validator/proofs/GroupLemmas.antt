-- Taking operands of groups, as the list of them one by one.
use Rattle.std.proofs.Common.{◌≡◌, ◌≤◌, ◌<◌, ◌-◌, ◌+◌, ℕ, length, Bool, true, false, List, [], ◌∷◌, ◌++◌, ◌&&◌, if◌then◌else◌, map, reverse, take, drop, get_or, Option, Some, None, refl, sym, ap, subst, ◌∙◌, arith}
use Rattle.std.proofs.lemmas.List.{append-nil, append_assoc, reverse-append, reverse-reverse, length-reverse, length-append, length-take-le, map-append, take-append-drop, take-append-le, drop-append-le, take-take, take_more, take_all}
use Rattle.wasm_ast.specs.declared.values.ValType.{ValType}
use Rattle.wasm_ast.specs.Types.{is_same_type, are_same_types}
use Rattle.validator.specs.Inside.Algorithm.{and_then, can_be, pops, knowns}
use Rattle.validator.specs.declared.groups.Group.{Group}
use Rattle.validator.specs.Inside.Blocks.{group_types, joined, types_of, LastLeaves}
use Rattle.wasm_ast.proofs.SameTypes.{itself, same_types, themselves}

-- ---- operands one by one

pub first_taken : (u : Bool) (t : ValType) (ts : List ValType) (x : Option ValType) (xs : List (Option ValType))
    → can_be t x ≡ true → pops u (t ∷ ts) (x ∷ xs) ≡ pops u ts xs
first_taken u t ts x xs h = rw h refl

pub first_refused : (u : Bool) (t : ValType) (ts : List ValType) (x : Option ValType) (xs : List (Option ValType))
    → can_be t x ≡ false → pops u (t ∷ ts) (x ∷ xs) ≡ None
first_refused u t ts x xs h = rw h refl

same_taken : (u : Bool) (ts rest : List ValType) (xs : List (Option ValType))
    → pops u (ts ++ rest) (knowns ts ++ xs) ≡ pops u rest xs
same_taken u [] rest xs = refl
same_taken u (t ∷ ts) rest xs =
    first_taken u t (ts ++ rest) (Some t) (knowns ts ++ xs) (itself t) ∙ same_taken u ts rest xs

next_refused : (b : Bool) (others : Bool) (ys : List (Option ValType))
    (f : List (Option ValType) → Option (List (Option ValType))) → (b && others) ≡ false
    → (others ≡ false → f ys ≡ None) → and_then (if b then Some ys else None) f ≡ None
next_refused true others ys f h rest = rest h
next_refused false others ys f h rest = refl

others_refused : (u : Bool) (ts us rest : List ValType) (xs : List (Option ValType)) → length ts ≡ length us
    → are_same_types ts us ≡ false → pops u (ts ++ rest) (knowns us ++ xs) ≡ None
others_refused u [] [] rest xs count h = cc
others_refused u [] (v ∷ us) rest xs count h = cc
others_refused u (t ∷ ts) [] rest xs count h = cc
others_refused u (t ∷ ts) (v ∷ us) rest xs count h =
    next_refused (is_same_type t v) (are_same_types ts us) (knowns us ++ xs) (pops u (ts ++ rest)) h
    (others_refused u ts us rest xs (omega (arith, count)))

-- ---- operands in written order

both_ways : (b : Bool) → (b ≡ true → false ≡ true) → b ≡ false
both_ways true h = sym (h refl)
both_ways false h = refl

reversed_differ :
    (ts us : List ValType) → are_same_types ts us ≡ false → are_same_types (reverse ts) (reverse us) ≡ false
reversed_differ ts us h =
    both_ways (are_same_types (reverse ts) (reverse us))
    (λ same.
    let equal : ts ≡ us =
    sym (reverse-reverse ts) ∙ (ap reverse (same_types (reverse ts) (reverse us) same) ∙ reverse-reverse us) in
    sym h ∙ subst (λ (vs : List ValType). are_same_types ts vs ≡ true) equal (themselves ts))

-- the types of two lists as operands, the second ones newer, on top of others
stacked : (below upper : List ValType) (xs : List (Option ValType))
    → knowns (reverse (below ++ upper)) ++ xs ≡ knowns (reverse upper) ++ (knowns (reverse below) ++ xs)
stacked below upper xs =
    ap (λ ts. knowns ts ++ xs) (reverse-append below upper)
    ∙ (ap (λ ys. ys ++ xs) (map-append Some (reverse upper) (reverse below))
    ∙ append_assoc (knowns (reverse upper)) (knowns (reverse below)) xs)

pub upper_taken : (u : Bool) (before wanted below upper : List ValType) (xs : List (Option ValType))
    → are_same_types wanted upper ≡ true
    → pops u (reverse (before ++ wanted)) (knowns (reverse (below ++ upper)) ++ xs)
    ≡ pops u (reverse before) (knowns (reverse below) ++ xs)
upper_taken u before wanted below upper xs same =
    let equal = same_types wanted upper same in
    ap (λ ts. pops u ts (knowns (reverse (below ++ upper)) ++ xs)) (reverse-append before wanted)
    ∙ (ap (pops u (reverse wanted ++ reverse before)) (stacked below upper xs)
    ∙ (ap
    (λ (ts : List ValType). pops u (reverse ts ++ reverse before)
    (knowns (reverse upper) ++ (knowns (reverse below) ++ xs)))
    equal
    ∙ same_taken u (reverse upper) (reverse before) (knowns (reverse below) ++ xs)))

pub upper_refused : (u : Bool) (before wanted below upper : List ValType) (xs : List (Option ValType))
    → length wanted ≡ length upper → are_same_types wanted upper ≡ false
    → pops u (reverse (before ++ wanted)) (knowns (reverse (below ++ upper)) ++ xs) ≡ None
upper_refused u before wanted below upper xs count h =
    ap (λ ts. pops u ts (knowns (reverse (below ++ upper)) ++ xs)) (reverse-append before wanted)
    ∙ (ap (pops u (reverse wanted ++ reverse before)) (stacked below upper xs)
    ∙ others_refused u (reverse wanted) (reverse upper) (reverse before) (knowns (reverse below) ++ xs)
    (length-reverse wanted ∙ (count ∙ sym (length-reverse upper))) (reversed_differ wanted upper h))

pub split_taken : (u : Bool) (types known : List ValType) (wanted left : ℕ) (xs : List (Option ValType))
    → are_same_types (drop wanted types) (drop left known) ≡ true
    → pops u (reverse types) (knowns (reverse known) ++ xs)
    ≡ pops u (reverse (take wanted types)) (knowns (reverse (take left known)) ++ xs)
split_taken u types known wanted left xs same =
    ap (λ (ts : List ValType). pops u (reverse ts) (knowns (reverse known) ++ xs)) (sym (take-append-drop wanted types))
    ∙ (ap
    (λ (ks : List ValType). pops u (reverse (take wanted types ++ drop wanted types)) (knowns (reverse ks) ++ xs))
    (sym (take-append-drop left known))
    ∙ upper_taken u (take wanted types) (drop wanted types) (take left known) (drop left known) xs same)

pub split_refused : (u : Bool) (types known : List ValType) (wanted left : ℕ) (xs : List (Option ValType))
    → length (drop wanted types) ≡ length (drop left known)
    → are_same_types (drop wanted types) (drop left known) ≡ false
    → pops u (reverse types) (knowns (reverse known) ++ xs) ≡ None
split_refused u types known wanted left xs count h =
    ap (λ (ts : List ValType). pops u (reverse ts) (knowns (reverse known) ++ xs)) (sym (take-append-drop wanted types))
    ∙ (ap
    (λ (ks : List ValType). pops u (reverse (take wanted types ++ drop wanted types)) (knowns (reverse ks) ++ xs))
    (sym (take-append-drop left known))
    ∙ upper_refused u (take wanted types) (drop wanted types) (take left known) (drop left known) xs count h)

-- ---- groups

joined-append : (xs ys : List (List (Option ValType))) → joined (xs ++ ys) ≡ joined ys ++ joined xs
joined-append [] ys = sym (append-nil (joined ys))
joined-append (x ∷ xs) ys =
    ap (λ types. types ++ x) (joined-append xs ys) ∙ append_assoc (joined ys) (joined xs) x

pub types_of-append : (gs hs : List Group) → types_of (gs ++ hs) ≡ types_of hs ++ types_of gs
types_of-append gs hs =
    ap joined (map-append group_types gs hs) ∙ joined-append (map group_types gs) (map group_types hs)

-- all groups but the last one, and this
pub with_last : (gs : List Group) (n : ℕ) (g : Group) → 0 < n → n ≡ length gs → g ≡ get_or gs (n - 1) g
    → gs ≡ take (length gs - 1) gs ++ (g ∷ [])
with_last gs n g some count at =
    let i = length gs - 1 in
    let more = take_more gs i g (omega (arith, some, count)) in
    let all = take_all (i + 1) gs (omega (arith, some, count)) in
    let last : get_or gs i g ≡ g = sym (at ∙ ap (λ m. get_or gs (m - 1) g) count) in
    sym all ∙ (more ∙ ap (λ (h : Group). take i gs ++ (h ∷ [])) last)

pub top_types : (gs : List Group) (base : ℕ) (g : Group) → base < length gs
    → gs ≡ take (length gs - 1) gs ++ (g ∷ [])
    → types_of (drop base gs) ≡ group_types g ++ types_of (drop base (take (length gs - 1) gs))
top_types gs base g within whole =
    let before = take (length gs - 1) gs in
    let fits : base ≤ length before = omega (arith, within, length-take-le (length gs - 1) gs (omega arith)) in
    ap (λ (hs : List Group). types_of (drop base hs)) whole
    ∙ (ap types_of (drop-append-le base before (g ∷ []) fits) ∙ types_of-append (drop base before) (g ∷ []))

pub last_types : (ts : List ValType) (old new : List Group) (base : ℕ) → base < length old → LastLeaves ts old new
    → types_of (drop base new) ≡ knowns (reverse ts) ++ types_of (drop base (take (length old - 1) old))
last_types ts old new base within left =
    let before = take (length old - 1) old in
    let fits : base ≤ length before = omega (arith, within, length-take-le (length old - 1) old (omega arith)) in
    ap (λ (hs : List Group). types_of (drop base hs)) left.1
    ∙ (ap types_of (drop-append-le base before left.0 fits)
    ∙ (types_of-append (drop base before) left.0
    ∙ ap (λ types. types ++ types_of (drop base before)) left.2))

pub last_outside : (ts : List ValType) (old new : List Group) (base : ℕ) → base < length old → LastLeaves ts old new
    → take base new ≡ take base old
last_outside ts old new base within left =
    let before = take (length old - 1) old in
    let fits : base ≤ length before = omega (arith, within, length-take-le (length old - 1) old (omega arith)) in
    ap (take base) left.1
    ∙ (take-append-le base before left.0 fits ∙ take-take base (length old - 1) old (omega (arith, within)))

pub last_within : (ts : List ValType) (old new : List Group) (base : ℕ) → base < length old → LastLeaves ts old new
    → base ≤ length new
last_within ts old new base within left =
    let before = take (length old - 1) old in
    let count = length-take-le (length old - 1) old (omega arith) in
    let whole = ap length left.1 ∙ length-append before left.0 in
    omega (arith, within, count, whole)

pub types_seen : (gs : List Group) (i : ℕ) (d : Group) (before after : List (Option ValType)) → i < length gs
    → before ≡ types_of (take i gs) → after ≡ group_types (get_or gs i d) ++ before
    → after ≡ types_of (take (i + 1) gs)
types_seen gs i d before after within seen next =
    next
    ∙ (ap (λ types. group_types (get_or gs i d) ++ types) seen
    ∙ sym (ap types_of (take_more gs i d within) ∙ types_of-append (take i gs) (get_or gs i d ∷ [])))

pub types_pushed : (gs : List Group) (base : ℕ) (g : Group) → base ≤ length gs
    → types_of (drop base (gs ++ (g ∷ []))) ≡ group_types g ++ types_of (drop base gs)
types_pushed gs base g within =
    ap types_of (drop-append-le base gs (g ∷ []) within) ∙ types_of-append (drop base gs) (g ∷ [])
