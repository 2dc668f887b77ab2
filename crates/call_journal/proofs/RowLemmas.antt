-- Fronts of a row, as lists.
use Rattle.std.proofs.Common.{◌≡◌, ℕ, zero, suc, ◌<◌, ◌≤◌, List, [], ◌∷◌, ◌++◌, length, Option, Some, None, option_map, get_or, refl, sym, ap, ◌∙◌, map, arith, length-append}
use Rattle.std.specs.Prelude.{slice_get}
use Rattle.std.proofs.lemmas.List.{length-map, map-append}
use Rattle.std.proofs.lemmas.Option.{slice_get-map, slice_get_read}
use Rattle.once_cell.specs.Once.{Agrees}
use Rattle.call_journal.specs.Fronts.{Begins}
use Rattle.call_journal.specs.Inside.Known.{names_of, values_of}

-- of two beginnings of one list the shorter begins the longer
pub fronts_begin : {A : Type 0} (xs ys zs : List A) → Begins xs zs → Begins ys zs → length xs ≤ length ys → Begins xs ys
fronts_begin [] ys zs h g le = (ys, refl)
fronts_begin (x ∷ xs) [] zs h g le = absurd (omega arith)
fronts_begin (x ∷ xs) (y ∷ ys) [] h g le = absurd cc
fronts_begin (x ∷ xs) (y ∷ ys) (z ∷ zs) h g le =
    let hx : x ∷ (xs ++ h.0) ≡ z ∷ zs = h.1 in
    let gy : y ∷ (ys ++ g.0) ≡ z ∷ zs = g.1 in
    let e : x ≡ y = cc in
    let ht : xs ++ h.0 ≡ zs = cc in
    let gt : ys ++ g.0 ≡ zs = cc in
    let r = fronts_begin xs ys zs (h.0, ht) (g.0, gt) (omega arith) in
    (r.0, rw e (ap (λ t. y ∷ t) r.1))

pub begins_length : {A : Type 0} (xs ys : List A) → Begins xs ys → length xs ≤ length ys
begins_length xs ys h = omega (arith, length-append xs h.0, ap length h.1)

-- a beginning goes on with the next item
begins_more : {A : Type 0} (xs rest : List A) (x : A) → slice_get (xs ++ rest) (length xs) ≡ Some x
    → Begins (xs ++ x ∷ []) (xs ++ rest)
begins_more [] [] x p = absurd cc
begins_more [] (r ∷ rest) x p = let e : r ≡ x = cc in (rest, ap (λ y. y ∷ rest) (sym e))
begins_more (z ∷ xs) rest x p = let h = begins_more xs rest x p in (h.0, ap (λ ys. z ∷ ys) h.1)

pub no_names : {T : Type 0} (cs : List (ℕ × T)) (cells : List ℕ) → cs ≡ [] → Begins (names_of cs) cells
no_names cs cells e = rw e (cells, refl)

-- the name of a cell of a front
front_get : {A : Type 0} (xs rest : List A) (i : ℕ) (x : A) → i < length xs → slice_get (xs ++ rest) i ≡ Some x
    → slice_get xs i ≡ Some x
front_get [] rest i x lt p = absurd (omega arith)
front_get (z ∷ xs) rest zero x lt p = p
front_get (z ∷ xs) rest (suc i) x lt p = front_get xs rest i x (omega arith) p

mapped_get : {A B : Type 0} (f : A → B) (xs : List A) (i : ℕ) → slice_get (map f xs) i ≡ option_map f (slice_get xs i)
mapped_get f [] i = refl
mapped_get f (x ∷ xs) zero = refl
mapped_get f (x ∷ xs) (suc i) = mapped_get f xs i

pub name_at : {T : Type 0} (cs : List (ℕ × T)) (cells : List ℕ) (i γ : ℕ) → Begins (names_of cs) cells → i < length cs
    → slice_get cells i ≡ Some γ → option_map (λ c. c.0) (slice_get cs i) ≡ Some γ
name_at cs cells i γ h lt p =
    sym (mapped_get (λ c. c.0) cs i)
    ∙ front_get (names_of cs) h.0 i γ (omega (arith, length-map cs (λ c. c.0))) (ap (λ ys. slice_get ys i) h.1 ∙ p)

value_at :
    {T : Type 0} (cs : List (ℕ × T)) (i : ℕ) → option_map (λ c. c.1) (slice_get cs i) ≡ slice_get (values_of cs) i
value_at cs i = sym (mapped_get (λ c. c.1) cs i)

there : {A : Type 0} (xs : List A) (i : ℕ) → i < length xs → slice_get xs i ≡ None → ⊥
there [] i lt e = omega arith
there (x ∷ xs) zero lt e = cc
there (x ∷ xs) (suc i) lt e = there xs i (omega arith) e

pub names_more : {T : Type 0} (cs ds : List (ℕ × T)) (cells : List ℕ) (γ : ℕ) (x : T) → Begins (names_of cs) cells
    → slice_get cells (length cs) ≡ Some γ → ds ≡ cs ++ (γ, x) ∷ [] → Begins (names_of ds) cells
names_more cs ds cells γ x h p e =
    let n = length-map cs (λ c. c.0) in
    let q : slice_get (names_of cs ++ h.0) (length (names_of cs)) ≡ Some γ = rw (h.1, n) p in
    let b = begins_more (names_of cs) h.0 γ q in
    rw (e, map-append) (b.0, b.1 ∙ h.1)

pub values_more :
    {T : Type 0} (cs ds : List (ℕ × T)) (γ : ℕ) (x : T) → ds ≡ cs ++ (γ, x) ∷ [] → values_of ds ≡ values_of cs ++ x ∷ []
values_more cs ds γ x e = rw (e, map-append) refl

-- the name of a cell that was read
pub name_of_read : {X : Type 0} (f : X → ℕ) (row : List X) (i : ℕ) (x : X) → i < length row → x ≡ get_or row i x
    → slice_get (map f row) i ≡ Some (f x)
name_of_read f row i x lt r = slice_get-map f row i ∙ ap (option_map f) (slice_get_read row (length row) i x refl lt r)

-- a front is no longer than its row
pub front_fits : {T X : Type 0} (f : X → ℕ) (cs : List (ℕ × T)) (row : List X) → Begins (names_of cs) (map f row)
    → length cs ≤ length row
front_fits f cs row h =
    omega (arith, begins_length (names_of cs) (map f row) h, length-map cs (λ c. c.0), length-map row f)

agreed_some : {T : Type 0} (k : Option T) (x : T) → (k ≡ None → ⊥) → Agrees k x → Some x ≡ k
agreed_some None x some a = absurd (some refl)
agreed_some (Some y) x some a = ap Some (sym a)

-- a cell that is known has a value
pub has_value : {T : Type 0} (cs : List (ℕ × T)) (i : ℕ) (k : Option T) → i < length cs
    → k ≡ option_map (λ c. c.1) (slice_get cs i) → k ≡ None → ⊥
has_value cs i k lt is none =
    there (values_of cs) i (omega (arith, length-map cs (λ c. c.1), lt)) (sym (value_at cs i) ∙ (sym is ∙ none))

-- and it is the one that is read
pub value_read : {T : Type 0} (cs : List (ℕ × T)) (i : ℕ) (k : Option T) (x : T) → i < length cs
    → k ≡ option_map (λ c. c.1) (slice_get cs i) → Agrees k x → Some x ≡ slice_get (values_of cs) i
value_read cs i k x lt is a = agreed_some k x (has_value cs i k lt is) a ∙ (is ∙ value_at cs i)
