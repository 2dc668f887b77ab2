-- The desk of a book, at which machines are checked out: a place for each slot of the board.
use Rattle.std.specs.Prelude.{◌≡◌, ℕ, List, map, Option, None, option_and_then, slice_get}
use Rattle.task_board.specs.Loans.{Lent}

-- a place has a name, and a loan while its machine is checked out
pub record Spot : Type 0 where
  pub name : ℕ
  pub lent : Option Lent

abbrev pub spot_names : List Spot → List ℕ
spot_names ps = map (λ p. p.name) ps

abbrev pub lent_at : ℕ → List Spot → Option Lent
lent_at i ps = option_and_then (λ (p : Spot). p.lent) (slice_get ps i)

-- nothing is checked out
abbrev pub AreIdle : List Spot → Type 0
AreIdle ps = (i : ℕ) → lent_at i ps ≡ None
