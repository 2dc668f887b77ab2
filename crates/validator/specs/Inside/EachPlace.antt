-- A walk over instructions that stops at some of their places, and what is found there.
use Rattle.std.specs.Prelude.{◌≡◌, ℕ, ◌+◌, ◌<◌, ◌≤◌, List, [], ◌∷◌, length, map, reverse, Option, Some, slice_get}
use Rattle.validator.specs.PlaceTypes.{Stack, Known}
use Rattle.validator.specs.Inside.Blocks.{Blocks}
use Rattle.validator.specs.declared.each_place.Opened.{Opened}

-- ---- what is found

-- of the first of these places, in order, something that is so there
abbrev pub FoundAt : {A : Type 0} → (IsAt : ℕ → A → Type 0) → (places : List ℕ) → List A → Type 0
FoundAt IsAt places [] = Unit {0}
FoundAt IsAt [] (x ∷ xs) = ⊥
FoundAt IsAt (place ∷ places) (x ∷ xs) = IsAt place x × FoundAt IsAt places xs

-- the next place, if one is left, is not before this number
abbrev pub NextFrom : {A : Type 0} → (places : List ℕ) → (found : List A) → (number : ℕ) → Type 0
NextFrom places found n = (place : ℕ) → slice_get places (length found) ≡ Some place → n ≤ place

-- what is so at the places of a body is so at n places of a part of it, which begins with this number
abbrev pub Follows : {B : Type 0} → (all : ℕ → B) → (first n : ℕ) → (part : ℕ → B) → Type 0
Follows all first n part = (k : ℕ) → k < n → all (first + k) ≡ part k

-- what was found before and in a part of a body is right, if what was found before is
abbrev pub Finds :
    {A B : Type 0} → (Is : B → A → Type 0) → (part : ℕ → B) → (n first : ℕ) → (places : List ℕ)
    → (old new : List A) → Type 0
Finds {A} {B} Is part n first places old new =
    (all : ℕ → B) → Follows all first n part → FoundAt (λ k x. Is (all k) x) places old
    → FoundAt (λ k x. Is (all k) x) places new

-- ---- blocks that are open

-- the operands of each block outside the innermost one, which come last
abbrev pub stacks_of : List Blocks → List Stack
stacks_of outer = reverse (map (λ b. b.stack) outer)

-- what is known where these blocks are open
abbrev pub known_in : Opened → Known
known_in o = record { labels = o.labels; stacks = o.operands.stack ∷ stacks_of o.outer.items }

-- is what is known
abbrev pub IsKnown : Option Known → Known → Type 0
IsKnown known t = known ≡ Some t
