-- The entries of a map from digests, as contents.
use Rattle.std.proofs.Common.{filter, ◌≡◌, ℕ, List, [], ◌∷◌, ◌++◌, Bool, true, false, true≢false, cond, bytes_eq, Option, Some, None, option_map, String, Global, string_bytes, refl, sym, ap, ◌∙◌}
use Rattle.std.proofs.lemmas.Slice.Eq.{bytes_eq-Decides}
use Rattle.std.specs.Arc.{arc_value}
use Rattle.std.specs.declared.sync.Arc.{Arc}
use Rattle.std.specs.String.{string_eq}
use Rattle.std.specs.Map.{lookup, remove_entry}
use Rattle.indexmap.specs.IndexMap.{insert_entry}
use Rattle.content_leases.specs.StoreState.{Content, content_in, remove_content}
use Rattle.content_leases.specs.Inside.Shown.{content_of, contents_of}

abbrev pub Entry : Type 0
Entry = String Global × Arc (List ℕ) Global

same_by : (x y : List ℕ) (a b : Bool) → bytes_eq x y ≡ a → bytes_eq y x ≡ b → a ≡ b
same_by x y true true is at = refl
same_by x y false false is at = refl
same_by x y true false is at =
    absurd (true≢false (sym ((bytes_eq-Decides y x).1 (sym ((bytes_eq-Decides x y).0 is))) ∙ at))
same_by x y false true is at =
    absurd (true≢false (sym ((bytes_eq-Decides x y).1 (sym ((bytes_eq-Decides y x).0 at))) ∙ is))

-- two texts are compared in either order
pub flip : (x y : List ℕ) → bytes_eq x y ≡ bytes_eq y x
flip x y = same_by x y (bytes_eq x y) (bytes_eq y x) refl refl

found_by : (b : Bool) (v : Arc (List ℕ) Global) (l : Option (Arc (List ℕ) Global)) (r : Option (List ℕ))
    → option_map arc_value l ≡ r → option_map arc_value (cond b (Some v) l) ≡ cond b (Some (arc_value v)) r
found_by true v l r h = refl
found_by false v l r h = h

pub found : (digest : List ℕ) (es : List Entry)
    → option_map arc_value (lookup (λ k. bytes_eq digest (string_bytes k)) es) ≡ content_in (contents_of es) digest
found digest [] = refl
found digest (e ∷ es) =
    found_by (bytes_eq digest (string_bytes e.0)) e.1 (lookup (λ k. bytes_eq digest (string_bytes k)) es)
    (content_in (contents_of es) digest) (found digest es)
    ∙ ap (λ (b : Bool). cond b (Some (arc_value e.1)) (content_in (contents_of es) digest))
    (flip digest (string_bytes e.0))

pushed_by : (b : Bool) (e : Entry) (es : List Entry) (d : String Global) (v : Arc (List ℕ) Global)
    → cond b (Some (arc_value e.1)) (content_in (contents_of es) (string_bytes d)) ≡ None
    → (content_in (contents_of es) (string_bytes d) ≡ None
    → contents_of (insert_entry string_eq es d v) ≡ contents_of es ++ content_of (d, v) ∷ [])
    → contents_of (cond b ((e.0, v) ∷ es) (e ∷ insert_entry string_eq es d v))
    ≡ content_of e ∷ contents_of es ++ content_of (d, v) ∷ []
pushed_by true e es d v none f = cc
pushed_by false e es d v none f = ap (λ (cs : List Content). content_of e ∷ cs) (f none)

-- a new digest goes last
pub pushed : (d : String Global) (v : Arc (List ℕ) Global) (es : List Entry)
    → content_in (contents_of es) (string_bytes d) ≡ None
    → contents_of (insert_entry string_eq es d v) ≡ contents_of es ++ content_of (d, v) ∷ []
pushed d v [] none = refl
pushed d v (e ∷ es) none =
    pushed_by (string_eq d e.0) e es d v
    (ap (λ (b : Bool). cond b (Some (arc_value e.1)) (content_in (contents_of es) (string_bytes d)))
    (flip (string_bytes d) (string_bytes e.0)) ∙ none) (pushed d v es)

removed_by : (b : Bool) (e : Entry) (es rest : List Entry) (cs : List Content) → contents_of rest ≡ cs
    → contents_of (cond b es (e ∷ rest)) ≡ cond b (contents_of es) (content_of e ∷ cs)
removed_by true e es rest cs h = refl
removed_by false e es rest cs h = ap (λ (xs : List Content). content_of e ∷ xs) h

pub removed : (digest : List ℕ) (es : List Entry)
    → contents_of (remove_entry (λ k. bytes_eq digest (string_bytes k)) es) ≡ remove_content digest (contents_of es)
removed digest [] = refl
removed digest (e ∷ es) =
    removed_by (bytes_eq digest (string_bytes e.0)) e es (remove_entry (λ k. bytes_eq digest (string_bytes k)) es)
    (remove_content digest (contents_of es)) (removed digest es)
    ∙ ap (λ (b : Bool). cond b (contents_of es) (content_of e ∷ remove_content digest (contents_of es)))
    (flip digest (string_bytes e.0))

-- ---- what is held

-- those entries that pass have the contents that pass
pub retained : (test : List ℕ → Bool) (es : List Entry)
    → contents_of (filter (λ (e : Entry). test (string_bytes e.0)) es)
    ≡ filter (λ (c : Content). test c.digest) (contents_of es)
retained test [] = refl
retained test (e ∷ es) = by (test (string_bytes e.0)) (retained test es)
  where
    by : (b : Bool) → contents_of (filter (λ (x : Entry). test (string_bytes x.0)) es)
        ≡ filter (λ (c : Content). test c.digest) (contents_of es) → contents_of
        (cond b (e ∷ filter (λ (x : Entry). test (string_bytes x.0)) es)
        (filter (λ (x : Entry). test (string_bytes x.0)) es))
        ≡ cond b (content_of e ∷ filter (λ (c : Content). test c.digest) (contents_of es))
        (filter (λ (c : Content). test c.digest) (contents_of es))
    by true h = ap (λ (cs : List Content). content_of e ∷ cs) h
    by false h = h
