-- The entries of a map from names, as leases.
use Rattle.std.proofs.Common.{length, suc, ◌≡◌, ℕ, List, [], ◌∷◌, ◌++◌, ap₂, ◌||◌, Bool, true, false, cond, bytes_eq, Option, Some, None, String, Global, string_bytes, refl, sym, ap, ◌∙◌}
use Rattle.std.specs.List.{list_any}
use Rattle.std.specs.String.{string_eq}
use Rattle.std.specs.Map.{lookup, remove_entry, set_value}
use Rattle.indexmap.specs.IndexMap.{insert_entry}
use Rattle.indexmap.specs.IndexSet.{insert_key}
use Rattle.content_leases.specs.StoreState.{Lease, lease_in, add_member, remove_lease, is_among}
use Rattle.content_leases.specs.Inside.Shown.{lease_of, leases_of, members_of}
use Rattle.content_leases.proofs.ContentLemmas.{flip}

abbrev pub Entry : Type 0
Entry = String Global × List (List ℕ)

pub none_is_not : {X : Type 0} (x : X) → None ≡ Some x → ⊥
none_is_not {X} x h = cc

pub some_is : {X : Type 0} (x y : X) → Some x ≡ Some y → x ≡ y
some_is {X} x y h = cc

found_by : (b : Bool) (v : List (List ℕ)) (l r : Option (List (List ℕ))) → l ≡ r → cond b (Some v) l ≡ cond b (Some v) r
found_by b v l r h = ap (cond b (Some v)) h

pub found :
    (name : List ℕ) (es : List Entry) → lookup (λ k. bytes_eq name (string_bytes k)) es ≡ lease_in (leases_of es) name
found name [] = refl
found name (e ∷ es) =
    found_by (bytes_eq name (string_bytes e.0)) e.1 (lookup (λ k. bytes_eq name (string_bytes k)) es)
    (lease_in (leases_of es) name) (found name es)
    ∙ ap (λ (b : Bool). cond b (Some e.1) (lease_in (leases_of es) name)) (flip name (string_bytes e.0))

pushed_by : (b : Bool) (e : Entry) (es : List Entry) (d : String Global) (v : List (List ℕ))
    → cond b (Some e.1) (lease_in (leases_of es) (string_bytes d)) ≡ None
    → (lease_in (leases_of es) (string_bytes d) ≡ None
    → leases_of (insert_entry string_eq es d v) ≡ leases_of es ++ lease_of (d, v) ∷ [])
    → leases_of (cond b ((e.0, v) ∷ es) (e ∷ insert_entry string_eq es d v))
    ≡ lease_of e ∷ leases_of es ++ lease_of (d, v) ∷ []
pushed_by true e es d v none f = cc
pushed_by false e es d v none f = ap (λ (cs : List Lease). lease_of e ∷ cs) (f none)

-- a new name goes last
pub pushed : (d : String Global) (v : List (List ℕ)) (es : List Entry) → lease_in (leases_of es) (string_bytes d) ≡ None
    → leases_of (insert_entry string_eq es d v) ≡ leases_of es ++ lease_of (d, v) ∷ []
pushed d v [] none = refl
pushed d v (e ∷ es) none =
    pushed_by (string_eq d e.0) e es d v
    (ap (λ (b : Bool). cond b (Some e.1) (lease_in (leases_of es) (string_bytes d)))
    (flip (string_bytes d) (string_bytes e.0)) ∙ none) (pushed d v es)

removed_by : (b : Bool) (e : Entry) (es rest : List Entry) (cs : List Lease) → leases_of rest ≡ cs
    → leases_of (cond b es (e ∷ rest)) ≡ cond b (leases_of es) (lease_of e ∷ cs)
removed_by true e es rest cs h = refl
removed_by false e es rest cs h = ap (λ (xs : List Lease). lease_of e ∷ xs) h

pub removed : (name : List ℕ) (es : List Entry)
    → leases_of (remove_entry (λ k. bytes_eq name (string_bytes k)) es) ≡ remove_lease name (leases_of es)
removed name [] = refl
removed name (e ∷ es) =
    removed_by (bytes_eq name (string_bytes e.0)) e es (remove_entry (λ k. bytes_eq name (string_bytes k)) es)
    (remove_lease name (leases_of es)) (removed name es)
    ∙ ap (λ (b : Bool). cond b (leases_of es) (lease_of e ∷ remove_lease name (leases_of es)))
    (flip name (string_bytes e.0))

-- ---- one member more

added_by : (b : Bool) (e : Entry) (es : List Entry) (name digest : List ℕ) (ms : List (List ℕ)) (rest : List Entry)
    (ls : List Lease) → cond b (Some e.1) (lease_in (leases_of es) name) ≡ Some ms
    → (lease_in (leases_of es) name ≡ Some ms → leases_of rest ≡ ls)
    → leases_of (cond b ((e.0, ms ++ digest ∷ []) ∷ es) (e ∷ rest))
    ≡ cond b (lease_of (e.0, e.1 ++ digest ∷ []) ∷ leases_of es) (lease_of e ∷ ls)
added_by true e es name digest ms rest ls is f =
    ap (λ (xs : List (List ℕ)). lease_of (e.0, xs ++ digest ∷ []) ∷ leases_of es) (sym (some_is e.1 ms is))
added_by false e es name digest ms rest ls is f = ap (λ (xs : List Lease). lease_of e ∷ xs) (f is)

pub added : (name digest : List ℕ) (ms : List (List ℕ)) (es : List Entry) → lease_in (leases_of es) name ≡ Some ms
    → leases_of (set_value (λ k. bytes_eq name (string_bytes k)) es (ms ++ digest ∷ []))
    ≡ add_member digest name (leases_of es)
added name digest ms [] is = absurd (none_is_not ms is)
added name digest ms (e ∷ es) is =
    let same = flip name (string_bytes e.0) in
    added_by (bytes_eq name (string_bytes e.0)) e es name digest ms
    (set_value (λ k. bytes_eq name (string_bytes k)) es (ms ++ digest ∷ [])) (add_member digest name (leases_of es))
    (ap (λ (b : Bool). cond b (Some e.1) (lease_in (leases_of es) name)) same ∙ is) (added name digest ms es) ∙ ap
    (λ (b : Bool). cond b (lease_of (e.0, e.1 ++ digest ∷ []) ∷ leases_of es)
    (lease_of e ∷ add_member digest name (leases_of es))) same

-- ---- members

pub among : (digest : List ℕ) (ks : List (String Global))
    → list_any (λ k. bytes_eq digest (string_bytes k)) ks ≡ is_among digest (members_of ks)
among digest [] = refl
among digest (k ∷ ks) = ap₂ (λ (a b : Bool). a || b) (flip digest (string_bytes k)) (among digest ks)

map_append :
    (ks : List (String Global)) (k : String Global) → members_of (ks ++ k ∷ []) ≡ members_of ks ++ string_bytes k ∷ []
map_append [] k = refl
map_append (x ∷ ks) k = ap (λ (ms : List (List ℕ)). string_bytes x ∷ ms) (map_append ks k)

pushed_key : (b : Bool) (k : String Global) (ks : List (String Global)) → b ≡ false
    → members_of (cond b ks (ks ++ k ∷ [])) ≡ members_of ks ++ string_bytes k ∷ []
pushed_key true k ks h = cc
pushed_key false k ks h = map_append ks k

pub key_pushed : (k : String Global) (ks : List (String Global)) → is_among (string_bytes k) (members_of ks) ≡ false
    → insert_key string_eq ks k ≡ ks ++ k ∷ []
key_pushed k ks h = by (list_any (string_eq k) ks) (among (string_bytes k) ks ∙ h)
  where
    by : (b : Bool) → b ≡ false → cond b ks (ks ++ k ∷ []) ≡ ks ++ k ∷ []
    by true e = cc
    by false e = refl

pub one_longer : (k : String Global) (ks : List (String Global)) → length (ks ++ k ∷ []) ≡ suc (length ks)
one_longer k [] = refl
one_longer k (x ∷ ks) = ap (λ (n : ℕ). suc n) (one_longer k ks)

pub member_pushed : (k : String Global) (ks : List (String Global)) → is_among (string_bytes k) (members_of ks) ≡ false
    → members_of (insert_key string_eq ks k) ≡ members_of ks ++ string_bytes k ∷ []
member_pushed k ks h = pushed_key (list_any (string_eq k) ks) k ks (among (string_bytes k) ks ∙ h)
