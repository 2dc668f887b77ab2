-- Names that are seen one after the other, and differ.
use Rattle.std.proofs.Common.{◌≡◌, ◌≢◌, ◌⊎◌, inl, inr, subst, drop, ℕ, ◌<◌, List, [], ◌∷◌, ◌++◌, map, take, length, get_or, All, Bool, true, false, true≢false, is_some, ◌+◌, cond, Option, Some, None, refl, sym, ap, ◌∙◌, arith}
use Rattle.std.specs.Prelude.{bytes_eq}
use Rattle.std.proofs.lemmas.List.{take_more, drop_more, take-append-drop, map-append}
use Rattle.std.proofs.lemmas.List.Elements.{All-push}
use Rattle.std.proofs.lemmas.Slice.Eq.{bytes_eq-Decides}
use Rattle.std.proofs.lemmas.Map.Text.{btree_map_updates_str}
use Rattle.std.specs.BTreeMap as tree
use Rattle.std.specs.BTreeMap.{BTreeMap}
use Rattle.std.specs.Cmp.Lexicographic.{slice_cmp}
use Rattle.std.specs.Ordering.{nat_cmp}
use denote.Ref.{Bor}
use Rattle.wasm_ast.specs.declared.module.Export.{Export}
use Rattle.validator.specs.Typing.{AllDifferent}
use Rattle.std.proofs.lemmas.List.Elements.{All-head, All-tail}

-- a text is among the keys
abbrev pub Seen : BTreeMap (Bor (List ℕ)) (Unit {0}) → List ℕ → Type 0
Seen m x = tree.get_by (λ k. slice_cmp nat_cmp x k.now) m ≡ Some tt

pub different_push :
    (xs : List (List ℕ)) (b : List ℕ) → AllDifferent xs → All (λ x. x ≢ b) xs → AllDifferent (xs ++ b ∷ [])
different_push [] b d h = (λ k e l. absurd (omega arith), tt)
different_push (x ∷ xs) b d h = (
  All-push (λ y. x ≢ y) xs b d.0 (All-head (λ y. y ≢ b) x xs h),
  different_push xs b d.1 (All-tail (λ y. y ≢ b) x xs h),
)

-- a text that is not among the keys differs from each that is
pub unlike :
    (m : BTreeMap (Bor (List ℕ)) (Unit {0})) (xs : List (List ℕ)) (b : List ℕ) → All (Seen m) xs
    → tree.get_by (λ k. slice_cmp nat_cmp b k.now) m ≡ None → All (λ x. x ≢ b) xs
unlike m xs b all none = λ k d l e.
    let there :
    tree.get_by (λ k. slice_cmp nat_cmp b k.now) m ≡ Some tt =
    ap (λ y. tree.get_by (λ k. slice_cmp nat_cmp y k.now) m) (sym e) ∙ all k d l in
    let clash : None ≡ Some tt = sym none ∙ there in
    cc

kept : (b : Bool) (o : Option (Unit {0})) → o ≡ Some tt → cond b (Some tt) o ≡ Some tt
kept true o h = refl
kept false o h = h

-- the keys after an insertion
pub seen_push : (m n : BTreeMap (Bor (List ℕ)) (Unit {0})) (xs : List (List ℕ)) (b : List ℕ) → All (Seen m) xs
    → tree.UpdatesBy (λ x y. slice_cmp nat_cmp x.now y.now) (λ k. slice_cmp nat_cmp b k.now) m n (Some tt)
    → All (Seen n) (xs ++ b ∷ [])
seen_push m n xs b all u =
    All-push (Seen n) xs b
    (λ k d l. btree_map_updates_str b m n (Some tt) u (get_or xs k d) ∙ kept (bytes_eq b (get_or xs k d)) _ (all k d l))
    (btree_map_updates_str b m n (Some tt) u b
    ∙ ap (λ t. cond t (Some tt) (tree.get_by (λ k. slice_cmp nat_cmp b k.now) m)) ((bytes_eq-Decides b b).1 refl))

pub nothing_there : (o : Option (Unit {0})) → is_some o ≡ false → o ≡ None
nothing_there None h = refl
nothing_there (Some u) h = absurd (true≢false h)

-- the names of one export more
pub one_more :
    (exports : List Export) (i : ℕ) (e : Export) (b : List ℕ) → i < length exports → e ≡ get_or exports i e → b ≡ e.name
    → map (λ (x : Export). x.name) (take (i + 1) exports) ≡ map (λ (x : Export). x.name) (take i exports) ++ b ∷ []
one_more exports i e b h is named =
    ap (map (λ (x : Export). x.name)) (take_more exports i e h)
    ∙ (map-append (λ (x : Export). x.name) (take i exports) (get_or exports i e ∷ [])
    ∙ ap (λ (n : List ℕ). map (λ (x : Export). x.name) (take i exports) ++ n ∷ [])
    (ap (λ (x : Export). x.name) (sym is) ∙ sym named))

-- ---- a name that is there twice

abbrev pub Among : List (List ℕ) → List ℕ → Type 0
Among [] x = ⊥
Among (y ∷ ys) x = (y ≡ x) ⊎ Among ys x

among_left : (xs ys : List (List ℕ)) (x : List ℕ) → Among xs x → Among (xs ++ ys) x
among_left [] ys x h = absurd h
among_left (y ∷ xs) ys x (inl e) = inl e
among_left (y ∷ xs) ys x (inr h) = inr (among_left xs ys x h)

among_last : (xs : List (List ℕ)) (x : List ℕ) → Among (xs ++ x ∷ []) x
among_last [] x = inl refl
among_last (y ∷ xs) x = inr (among_last xs x)

-- the keys after an insertion are those before it and the new one
pub among_push :
    (m n : BTreeMap (Bor (List ℕ)) (Unit {0})) (xs : List (List ℕ)) (b : List ℕ)
    → ((x : List ℕ) → Seen m x → Among xs x)
    → tree.UpdatesBy (λ x y. slice_cmp nat_cmp x.now y.now) (λ k. slice_cmp nat_cmp b k.now) m n (Some tt)
    → (x : List ℕ) → Seen n x → Among (xs ++ b ∷ []) x
among_push m n xs b known u x h = by_test (bytes_eq b x) refl
  where
    by_test : (t : Bool) → bytes_eq b x ≡ t → Among (xs ++ b ∷ []) x
    by_test true e =
        let same : b ≡ x = (bytes_eq-Decides b x).0 e in subst (λ y. Among (xs ++ b ∷ []) y) same (among_last xs b)
    by_test false e =
        let before :
        Seen m x =
        sym (btree_map_updates_str b m n (Some tt) u x
        ∙ ap (λ t. cond t (Some tt) (tree.get_by (λ k. slice_cmp nat_cmp x k.now) m)) e) ∙ h in
        among_left xs (b ∷ []) x (known x before)

pub something_there : (o : Option (Unit {0})) → is_some o ≡ true → o ≡ Some tt
something_there None h = absurd (true≢false (sym h))
something_there (Some tt) h = refl

twice : (xs ys : List (List ℕ)) (b : List ℕ) → Among xs b → AllDifferent (xs ++ b ∷ ys) → ⊥
twice [] ys b h d = absurd h
twice (x ∷ xs) ys b (inl e) d = differs xs ys b d.0 e
  where
    differs : (zs ys : List (List ℕ)) (b : List ℕ) → All (λ y. x ≢ y) (zs ++ b ∷ ys) → x ≡ b → ⊥
    differs [] ys b all e = All-head (λ y. x ≢ y) b ys all e
    differs (z ∷ zs) ys b all e = differs zs ys b (All-tail (λ y. x ≢ y) z (zs ++ b ∷ ys) all) e
twice (x ∷ xs) ys b (inr h) d = twice xs ys b h d.1

-- a name among those of the exports before it
pub there_twice :
    (exports : List Export) (i : ℕ) (e : Export) (b : List ℕ) → i < length exports → e ≡ get_or exports i e → b ≡ e.name
    → Among (map (λ (x : Export). x.name) (take i exports)) b → AllDifferent (map (λ (x : Export). x.name) exports) → ⊥
there_twice exports i e b h is named known differ =
    let name : Export → List ℕ = λ x. x.name in
    let rest = drop (i + 1) exports in
    let whole : map name exports ≡ map name (take i exports) ++ b ∷ map name rest =
    ap (map name) (sym (take-append-drop i exports))
    ∙ (map-append name (take i exports) (drop i exports)
    ∙ (ap (λ (xs : List Export). map name (take i exports) ++ map name xs) (drop_more exports i e h)
    ∙ ap (λ (n : List ℕ). map name (take i exports) ++ n ∷ map name rest) (ap name (sym is) ∙ sym named))) in
    twice (map name (take i exports)) (map name rest) b known (subst AllDifferent whole differ)
