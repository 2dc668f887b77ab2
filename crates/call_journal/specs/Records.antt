-- The journal of a run of events.
use Rattle.std.specs.Prelude.{◌≡◌, ℕ, List, [], ◌∷◌, true}
use Rattle.task_requests.specs.declared.event.Event.{Event}
use Rattle.task_requests.specs.declared.event.Event.TheVariants as event
use Rattle.task_requests.specs.declared.event.EventReply.{EventReply}
use Rattle.task_requests.specs.declared.event.EventReply.TheVariants as answer
use Rattle.task_requests.specs.declared.request.Request.{Request}
use Rattle.task_board.specs.BoardState.{BoardState}
use Rattle.task_board.specs.Step.{Answer, Answers, Step}
use Rattle.task_board.specs.Run.{met_no_memory}
use Rattle.call_journal.specs.declared.entry.Entry.{Entry}
use Rattle.call_journal.specs.Finding.{found_of}

-- the entry of a call that a seat makes on a board
abbrev pub entry_on : BoardState → (seat : ℕ) → Request → Entry
entry_on s seat r = record { seat = seat; request = r; found = found_of s r }

-- a take or a return
abbrev pub IsOfSlice : Event → Type 0
IsOfSlice (event.Call r) = ⊥
IsOfSlice other = Unit {0}

-- The events lead from one board to another with these answers, and these are the entries of the calls
-- among them. A call that ran out of memory has none.
pub data Records :
    BoardState → List Event → List EventReply → List Entry → BoardState → Type 0 where
  ends : (s : BoardState) → Records s [] [] [] s
  call : (s mid s' : BoardState) → (seat : ℕ) → (r : Request) → (a : Answer) → (es : List Event)
      → (answers : List EventReply) → (h : List Entry)
      → Answers s r a mid → Records mid es answers h s'
      → Records s (event.Call r ∷ es) (answer.Called a ∷ answers) (entry_on s seat r ∷ h) s'
  slice : (s mid s' : BoardState) → (e : Event) → (a : EventReply) → (es : List Event)
      → (answers : List EventReply) → (h : List Entry)
      → IsOfSlice e → Step s e a mid → Records mid es answers h s'
      → Records s (e ∷ es) (a ∷ answers) h s'
  no_memory : (s s' : BoardState) → (e : Event) → (a : EventReply) → (es : List Event)
      → (answers : List EventReply) → (h : List Entry)
      → met_no_memory e a ≡ true → Records s es answers h s' → Records s (e ∷ es) (a ∷ answers) h s'
