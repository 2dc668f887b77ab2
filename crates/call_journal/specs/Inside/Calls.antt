-- Calls for which all memory has been taken.
use Rattle.std.specs.Prelude.{◌≡◌, ℕ, ◌++◌, List, [], ◌∷◌}
use Rattle.task_requests.specs.declared.request.Request.{Request}
use Rattle.task_board.specs.declared.prepared.Prepared.{Prepared}
use Rattle.task_board.specs.Prepared.{Prepares}
use Rattle.call_journal.specs.declared.entry.Entry.{Entry}
use Rattle.call_journal.specs.Books.{BookValue}
use Rattle.call_journal.specs.Records.{entry_on}
use Rattle.call_journal.specs.Seats.{GoesOn}

-- a seat's request is prepared so, and its entry ends what has been seen of the cells
pub record IsEntered (b : BookValue) (number : ℕ) (r : Request) (p : Prepared) (seen : List Entry) :
    Type 0 where
  pub prepares : Prepares (record { state = b.board; waiting = b.waiting; room = b.room }) r p
  pub ends : seen ≡ b.journal ++ entry_on b.board number r ∷ []

-- the journal goes on from the history with calls of others, and ends with a call of the seat
pub record EndsWithCall (number : ℕ) (history journal : List Entry) : Type 0 where
  pub before : List Entry
  pub entry : Entry
  pub is : journal ≡ before ++ entry ∷ []
  pub seat : entry.seat ≡ number
  pub on : GoesOn number history before
