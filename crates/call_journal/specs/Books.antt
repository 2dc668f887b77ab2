-- What contracts see of a book, and what a call does to it.
use Rattle.std.specs.Prelude.{◌≡◌, ◌||◌, ◌&&◌, ◌+◌, ◌++◌, ◌==◌, ℕ, length, List, [], ◌∷◌, Ok, Err, Bool, true, false, not}
use Rattle.wasm_ast.specs.declared.refusal.Refusal.{Refusal}
use Rattle.wasm_ast.specs.declared.refusal.Refusal.TheVariants as refusal
use Rattle.task_lifecycle.specs.declared.status.Status.{Status}
use Rattle.task_lifecycle.specs.declared.status.Status.TheVariants.{Paused, Stopped}
use Rattle.task_requests.specs.declared.request.Request.{Request}
use Rattle.task_requests.specs.declared.request.Reply.TheVariants as reply
use Rattle.task_board.specs.declared.ticket.Ticket.{Ticket}
use Rattle.task_board.specs.BoardState.{BoardState, task_of}
use Rattle.task_board.specs.BoardValue.{Room}
use Rattle.task_board.specs.Settled.{is_settled}
use Rattle.task_board.specs.Step.{Answer, Answers}
use Rattle.task_board.specs.Waiting.{waiting_after}
use Rattle.call_journal.specs.declared.entry.Entry.{Entry}
use Rattle.call_journal.specs.Records.{entry_on}
use Rattle.call_journal.specs.Seats.{Known, Extends, most_entries}

-- The board, the tasks that wait for a worker, and how much fits on the board with no memory taken; the
-- journal, and whether the book is closed; how many seats there are, and the ledger's total: the sum of the
-- seats' shares
pub record BookValue : Type 0 where
  pub board : BoardState
  pub waiting : List Ticket
  pub room : Room
  pub journal : List Entry
  pub closed : Bool
  pub seats : ℕ
  pub total : ℕ

-- the refusals that change nothing and are not journalled
abbrev pub is_refused : Refusal → Bool
is_refused refusal.JournalFull = true
is_refused refusal.NoMemory = true
is_refused refusal.Closed = true
is_refused refusal.JournalFault = true
is_refused other = false

-- every other answer is journalled
abbrev pub is_journalled : Answer → Bool
is_journalled (Ok reply) = true
is_journalled (Err e) = not (is_refused e)

-- The board has made the call, and the journal has one entry more: that of this call. The seat has seen the
-- whole journal, so that the first cells of the row hold it
pub record HasCalled (old new : BookValue) (was now : Known) (r : Request) (a : Answer) :
    Type 0 where
  pub journal : new.journal ≡ old.journal ++ entry_on old.board was.number r ∷ []
  pub answers : Answers old.board r a new.board
  pub waiting : new.waiting ≡ waiting_after r a new.board.tasks old.waiting
  pub closed : new.closed ≡ old.closed
  pub seats : new.seats ≡ old.seats
  pub total : new.total ≡ old.total + 1
  pub seen : now.history ≡ new.journal
  pub seat : Extends was now r a

-- nothing that a call can see has changed
abbrev pub IsUnchanged : BookValue → BookValue → Type 0
IsUnchanged old new = new ≡ record old { room = new.room }

-- the journal takes no other call
abbrev pub is_full : BookValue → Bool
is_full b = length b.journal == most_entries

-- a wait for the task with an id is not answered Busy
abbrev pub is_due : BookValue → List ℕ → Bool
is_due b id = b.closed || (is_full b || is_settled (task_of id b.board.tasks))

-- a worker has nothing to do: the book is not closed, and no task waits for a worker
abbrev pub is_idle : BookValue → Bool
is_idle b = not b.closed && (length b.waiting == 0)

-- the status of a task that has paused or ended
abbrev pub is_at_rest : Status → Bool
is_at_rest Paused = true
is_at_rest Stopped = true
is_at_rest other = false

-- a pause or a kill has left its task paused or stopped
abbrev pub settles : Answer → Bool
settles (Ok (reply.Pause id status)) = is_at_rest status
settles (Ok (reply.Kill id status)) = is_at_rest status
settles other = false
