-- Members that are taken from an object: what is found, what is left, and that both make up the whole.
use Rattle.std.proofs.Common.{◌≡◌, ◌≢◌, ℕ, List, [], ◌∷◌, Option, Some, None, String, Global, Ordering, Less, Equal, Greater, string_bytes, string_cmp, nat_cmp, is_eq, cond, refl, sym, ap, ◌∙◌, subst, IfSome}
use Rattle.std.proofs.lemmas.Cmp.{nat_list_cmp_total}
use Rattle.std.proofs.lemmas.Map.Text.{is_eq-slice_cmp}
use Rattle.std.proofs.lemmas.Slice.Eq.{bytes_eq-Decides}
use Rattle.std.specs.Cmp.Lexicographic.{slice_cmp}
use Rattle.std.specs.List.{AllByRecursion}
use Rattle.std.specs.List.Sorted.{IsStrictlySortedBy}
use Rattle.std.specs.Map.{keys_of, lookup, remove_entry}
use Rattle.std.specs.Ordering.{match_ordering, ordering_reverse}
use Rattle.std.specs.BTreeMap.{is_at}
use Rattle.serde_json.specs.Data.{Data, Members, no_members, member, put}
use Rattle.serde_json.specs.View.{view, members_view}
use Rattle.serde_json.specs.declared.value.Value.{Value}
use Rattle.serde_json.proofs.Views.{Entry}
use Rattle.request_lines.specs.Inside.Parse.{without}

abbrev at : List ℕ → String Global → Ordering
at name k = slice_cmp nat_cmp name (string_bytes k)

same_name : (name : List ℕ) (k : String Global) → at name k ≡ Equal → name ≡ string_bytes k
same_name name k e =
    (bytes_eq-Decides name (string_bytes k)).0 (sym (is_eq-slice_cmp name (string_bytes k)) ∙ ap is_eq e)

removed_at : (o : Ordering) (e : Entry) (es rest : List Entry) (w : Members) → members_view rest ≡ w
    → members_view (cond (is_eq o) es (e ∷ rest))
    ≡ match_ordering o (member (string_bytes e.0) (view e.1) w) (members_view es)
    (member (string_bytes e.0) (view e.1) w)
removed_at Less e es rest w h = ap (member (string_bytes e.0) (view e.1)) h
removed_at Equal e es rest w h = refl
removed_at Greater e es rest w h = ap (member (string_bytes e.0) (view e.1)) h

-- what is left
pub view-remove_entry : (name : List ℕ) (es : List Entry)
    → members_view (remove_entry (is_at (at name)) es) ≡ without name (members_view es)
view-remove_entry name [] = refl
view-remove_entry name (e ∷ es) = removed_at (at name e.0) e es _ _ (view-remove_entry name es)

-- a key below all of these goes first
put_first : (name : List ℕ) (d : Data) (es : List Entry) → AllByRecursion (λ y. at name y ≡ Less) (keys_of es)
    → put name d (members_view es) ≡ member name d (members_view es)
put_first name d [] h = refl
put_first name d (e ∷ es) h = rw (h.0) refl

found_at :
    (o : Ordering) (name : List ℕ) (l : String Global) (e : Entry) (v : Value) (later : Option Value) → at name e.0 ≡ o
    → string_cmp l e.0 ≡ Less
    → (later ≡ Some v → slice_cmp nat_cmp (string_bytes l) name ≡ Less) → cond (is_eq o) (Some e.1) later ≡ Some v
    → slice_cmp nat_cmp (string_bytes l) name ≡ Less
found_at Less name l e v later is below more h = more h
found_at Equal name l e v later is below more h =
    subst (λ n. slice_cmp nat_cmp (string_bytes l) n ≡ Less) (sym (same_name name e.0 is)) below
found_at Greater name l e v later is below more h = more h

-- a key that is found among keys above another is above it, too
found_above : (name : List ℕ) (l : String Global) (es : List Entry) (v : Value)
    → AllByRecursion (λ y. string_cmp l y ≡ Less) (keys_of es)
    → lookup (is_at (at name)) es ≡ Some v → slice_cmp nat_cmp (string_bytes l) name ≡ Less
found_above name l [] v h e = cc
found_above name l (x ∷ xs) v h e = found_at _ name l x v _ refl h.0 (found_above name l xs v h.1) e

whole_later :
    (name : List ℕ) (e : Entry) (es rest : List Entry) (d : Data) → slice_cmp nat_cmp (string_bytes e.0) name ≡ Less
    → members_view es ≡ put name d (members_view rest) → members_view (e ∷ es) ≡ put name d (members_view (e ∷ rest))
whole_later name e es rest d below h =
    let above : slice_cmp nat_cmp name (string_bytes e.0) ≡ Greater =
    nat_list_cmp_total.antisymm name (string_bytes e.0) ∙ ap ordering_reverse below in
    rw above (ap (member (string_bytes e.0) (view e.1)) h)

whole_at : (o : Ordering) (name : List ℕ) (e : Entry) (es : List Entry) (v : Value) → at name e.0 ≡ o
    → AllByRecursion (λ y. string_cmp e.0 y ≡ Less) (keys_of es) → (lookup (is_at (at name)) es ≡ Some v
    → members_view es ≡ put name (view v) (members_view (remove_entry (is_at (at name)) es)))
    → cond (is_eq o) (Some e.1) (lookup (is_at (at name)) es) ≡ Some v → members_view (e ∷ es)
    ≡ put name (view v) (members_view (cond (is_eq o) es (e ∷ remove_entry (is_at (at name)) es)))
whole_at Less name e es v is s more h = whole_later name e es _ (view v) (found_above name e.0 es v s h) (more h)
whole_at Equal name e es v is s more h =
    let same = same_name name e.0 is in
    let value : e.1 ≡ v = cc in
    sym (put_first name (view v) es
    (subst (λ n. AllByRecursion (λ y. slice_cmp nat_cmp n (string_bytes y) ≡ Less) (keys_of es)) (sym same) s)
    ∙ (rw (same, ← value) refl))
whole_at Greater name e es v is s more h = whole_later name e es _ (view v) (found_above name e.0 es v s h) (more h)

-- what is found and what is left are the whole
pub whole : (name : List ℕ) (es : List Entry) (v : Value) → IsStrictlySortedBy string_cmp (keys_of es)
    → lookup (is_at (at name)) es ≡ Some v
    → members_view es ≡ put name (view v) (members_view (remove_entry (is_at (at name)) es))
unfolding IsStrictlySortedBy
whole name [] v s h = cc
whole name (e ∷ es) v s h = whole_at _ name e es v refl s.0 (whole name es v s.1) h

pub not_empty : (es : List Entry) → (es ≡ [] → ⊥) → members_view es ≢ no_members
not_empty [] h e = h refl
not_empty (x ∷ xs) h e = cc

pub whole_if_found :
    (r : Option Value) (name : List ℕ) (es rest : List Entry) → IsStrictlySortedBy string_cmp (keys_of es)
    → r ≡ lookup (is_at (at name)) es
    → rest ≡ remove_entry (is_at (at name)) es → IfSome r (λ v. members_view es ≡ put name (view v) (members_view rest))
whole_if_found None name es rest s found left = tt
whole_if_found (Some v) name es rest s found left = rw left (whole name es v s (sym found))
