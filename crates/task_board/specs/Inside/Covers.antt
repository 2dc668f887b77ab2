-- The loans that are held while events happen.
use Rattle.std.specs.Prelude.{◌≡◌, ℕ, List, [], ◌∷◌, ◌⊎◌, Some, slice_get}
use Rattle.std.specs.List.{AllByRecursion}
use Rattle.task_board.specs.BoardState.{Task, Entries, task_in}
use Rattle.task_board.specs.Loans.{Lent, Fits}

-- the loan is of this slot, and fits
abbrev pub IsFitting : Entries → ℕ → Lent → Type 0
IsFitting ts slot l = (l.slot ≡ slot) × Fits l ts

-- the loan at that index is of this slot, and fits
abbrev pub FitsAt : Entries → ℕ → List Lent → ℕ → Type 0
FitsAt ts slot ls i = (l : Lent) × (slice_get ls i ≡ Some l) × IsFitting ts slot l

abbrev pub NoneFits : Entries → ℕ → List Lent → Type 0
NoneFits ts slot = AllByRecursion (λ (l : Lent). IsFitting ts slot l → ⊥)

abbrev pub SomeFits : Entries → ℕ → List Lent → Type 0
SomeFits ts slot [] = ⊥
SomeFits ts slot (l ∷ ls) = IsFitting ts slot l ⊎ SomeFits ts slot ls

-- of each task that is out the loan is among these
abbrev pub Covered : List Lent → Entries → Type 0
Covered ls ts =
    (slot : ℕ) → (t : Task) → (budget : ℕ) → task_in slot ts ≡ Some t → t.out ≡ Some budget
    → SomeFits ts slot ls
