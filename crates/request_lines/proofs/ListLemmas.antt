-- A value that is a list, made of one value after another.
use Rattle.std.proofs.Common.{rules, ◌≡◌, ℕ, ◌+◌, ◌<◌, ◌≤◌, List, [], ◌∷◌, ◌++◌, Vec, String, Global, length, map, drop, get_or, string_bytes, sym, ap, ◌∙◌, append_assoc, append-nil}
use Rattle.std.proofs.lemmas.List.{at_drop_more, at_drop_all, map-append}
use Rattle.serde_json.specs.Data.{Data, string, array}
use Rattle.serde_json.specs.View.{view, items_of}
use Rattle.serde_json.specs.declared.value.Value.{Value, the_lemmas}
use Rattle.serde_json.specs.declared.value.Value.TheVariants as value
use Rattle.serde_json.proofs.Views.{view-Array}

-- the values of the items before this place, and then the data of the others
abbrev Made : {X : Type 0} → (f : X → Data) → List X → ℕ → List Value → Type 0
Made f xs k values = map f xs ≡ map view values ++ map f (drop k xs)

-- with the value of the item that is next
pub one_more : {X : Type 0} (f : X → Data) (xs : List X) (k : ℕ) (x : X) (values : List Value) (v : Value)
    (more : List Value) → k < length xs → view v ≡ f (get_or xs k x) → more ≡ values ++ v ∷ []
    → Made f xs k values → Made f xs (k + 1) more
one_more f xs k x values v more below same pushed before =
    let rest = map f (drop (k + 1) xs) in
    let next : map f (drop k xs) ≡ view v ∷ rest =
    at_drop_more (map f) xs k x below ∙ ap (λ d. d ∷ rest) (sym same) in
    let longer : map view values ++ view v ∷ [] ≡ map view more =
    sym (map-append view values (v ∷ [])) ∙ ap (map view) (sym pushed) in
    before ∙ ap (λ ds. map view values ++ ds) next ∙ sym (append_assoc (map view values) (view v ∷ []) rest)
    ∙ ap (λ ds. ds ++ rest) longer

-- when no item is left
pub all_made : {X : Type 0} (f : X → Data) (xs : List X) (k : ℕ) (list : Vec Value Global) → length xs ≤ k
    → Made f xs k list.items → view (value.Array list) ≡ array (items_of (map f xs))
all_made f xs k list none before =
    let all : map f xs ≡ map view list.items =
    before ∙ ap (λ ds. map view list.items ++ ds) (at_drop_all (map f) xs k none) ∙ append-nil (map view list.items) in
    view-Array list ∙ ap (λ ds. array (items_of ds)) (sym all)

pub view_of_text : (s : String Global) → view (value.String s) ≡ string (string_bytes s)
view_of_text s = search (rules, the_lemmas)
