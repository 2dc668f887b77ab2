-- What a seat knows, and how its history goes on.
use Rattle.std.specs.Prelude.{◌≡◌, ℕ, ◌+◌, ◌^◌, ◌++◌, List, [], ◌∷◌, ◌==◌, count_by}
use Rattle.task_requests.specs.declared.request.Request.{Request}
use Rattle.task_board.specs.Step.{Answer}
use Rattle.call_journal.specs.declared.entry.Entry.{Entry}
use Rattle.call_journal.specs.Replay.{MayAnswer}

-- how many entries a journal has at most
abbrev pub most_entries : ℕ
most_entries = 16384

-- how many seats there are at most
abbrev pub most_seats : ℕ
most_seats = 2 ^ 60

-- a seat has its number, the entries that it has seen, and its share of the ledger
pub record Known : Type 0 where
  pub number : ℕ
  pub history : List Entry
  pub share : ℕ

-- how many calls of a history are of the seat with a number
abbrev pub own_calls : ℕ → List Entry → ℕ
own_calls number history = count_by (λ e. e.seat == number) history

-- a journal goes on from a history with no call of the seat
pub record GoesOn (number : ℕ) (history journal : List Entry) : Type 0 where
  pub rest : List Entry
  pub joins : history ++ rest ≡ journal
  pub none : own_calls number rest ≡ 0

-- A seat has made a call that was journalled. Its history begins with all that it had seen, has no other call
-- of its own after that, and ends with this one; the call was answered as it may be after the entries before
-- it. The share has one more
pub record Extends (was now : Known) (r : Request) (a : Answer) : Type 0 where
  pub number : now.number ≡ was.number
  pub share : now.share ≡ was.share + 1
  pub before : List Entry
  pub entry : Entry
  pub on : GoesOn was.number was.history before
  pub ends : now.history ≡ before ++ entry ∷ []
  pub seat : entry.seat ≡ was.number
  pub request : entry.request ≡ r
  pub answer : MayAnswer before entry a
