-- What a book knows of the loans of its desk, and how these change.
use Rattle.std.specs.Prelude.{◌≡◌, ◌≢◌, ℕ, List, Option, Some}
use Rattle.task_board.specs.BoardState.{Entries}
use Rattle.task_board.specs.Loans.{Lent, Fits}
use Rattle.call_journal.specs.Desks.{Spot, spot_names, lent_at}

-- each loan of the desk is of its place's slot, and fits
abbrev pub AllFit : List Spot → Entries → Type 0
AllFit desk ts = (i : ℕ) → (l : Lent) → lent_at i desk ≡ Some l → (l.slot ≡ i) × Fits l ts

-- the desk is as it was, but for the loan of one place
pub record IsSetAt (slot : ℕ) (to : Option Lent) (old new : List Spot) : Type 0 where
  pub names : spot_names new ≡ spot_names old
  pub there : lent_at slot new ≡ to
  pub others : (i : ℕ) → i ≢ slot → lent_at i new ≡ lent_at i old
