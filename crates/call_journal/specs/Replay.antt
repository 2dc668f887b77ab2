-- Replays of histories. A history is a list of entries; it holds calls alone, and says of the slices between
-- them only what each call found. A replay makes each task go on to the count that a call found, and then
-- makes the call.
use Rattle.std.specs.Prelude.{◌≡◌, ℕ, ◌<◌, ◌⊎◌, List, [], ◌∷◌, true, Option, Some, None}
use Rattle.task_lifecycle.specs.declared.status.Status.TheVariants.{Running}
use Rattle.task_requests.specs.declared.request.Request.{Request}
use Rattle.task_board.specs.BoardState.{Task, Entries, BoardState, empty, task_of, with_task}
use Rattle.task_board.specs.Tasks.{advanced, MayAdvance, can_lend, lent, slice_turns}
use Rattle.task_board.specs.Step.{Answer, Answers, is_budget}
use Rattle.call_journal.specs.declared.entry.Found.{Found}
use Rattle.call_journal.specs.declared.entry.Entry.{Entry}
use Rattle.task_board.specs.Claims.{asked_of}
use Rattle.call_journal.specs.Finding.{found_in, found_of}

-- ---- one task

-- A task with this out mark may have made k turns since. A task that was idle may have made any number. One
-- whose slice was out has made the turns of that slice; or more, in later slices, which only a running task
-- with no signal pending has
abbrev pub Spans : Task → (k : ℕ) → (out : Option ℕ) → Type 0
Spans t k None = Unit {0}
Spans t k (Some budget) = (k ≡ slice_turns t budget)
    ⊎ ((slice_turns t budget < k) × (t.status ≡ Running) × (t.signal ≡ None))

-- What takes and returns may have made of a task since: it advances at most once, and then its slice may be
-- taken. A count never gets smaller, and at an equal count an out mark neither changes nor goes
pub data ComesTo (t : Task) : Task → Type 0 where
  stays : ComesTo t t
  is_taken : (budget : ℕ) → can_lend t ≡ true → is_budget budget ≡ true → ComesTo t (lent t budget)
  advances : (k : ℕ) → MayAdvance t k → Spans t k t.out → ComesTo t (advanced t k)
  is_retaken : (k budget : ℕ) → MayAdvance t k → Spans t k t.out → can_lend (advanced t k) ≡ true
      → is_budget budget ≡ true → ComesTo t (lent (advanced t k) budget)

-- ---- one entry

-- a call finds this on a board; the task that it names has come so far since, and nothing else has changed
pub data Finds (s : BoardState) (r : Request) : Option Found → BoardState → Type 0 where
  no_task : found_of s r ≡ None → Finds s r None s
  task :
      (id : List ℕ) → (t t' : Task) → asked_of r ≡ Some id → task_of id s.tasks ≡ Some t
      → ComesTo t t' → Finds s r (Some (found_in t')) (with_task s t')

-- ---- histories

-- a history leads from one board to another: each call finds what its entry says, and then is answered
abbrev pub Replays : BoardState → List Entry → BoardState → Type 0
Replays s [] s' = s' ≡ s
Replays s (e ∷ es) s' =
    (mid : BoardState) × (next : BoardState) × (a : Answer) × Finds s e.request e.found mid
    × Answers mid e.request a next × Replays next es s'

-- a history is legal if it leads from the empty board to some board
abbrev pub IsLegal : List Entry → Type 0
IsLegal es = (s : BoardState) × Replays empty es s

-- after a history, a call with this entry may be answered so
abbrev pub MayAnswer : List Entry → Entry → Answer → Type 0
MayAnswer es e a = (s : BoardState) × (mid : BoardState) × (next : BoardState) × Replays empty es s
    × Finds s e.request e.found mid × Answers mid e.request a next

-- ---- the present

-- each task is in its slot, and has come so far since
abbrev pub HaveCome : Entries → Entries → Type 0
HaveCome [] [] = Unit {0}
HaveCome (e ∷ es) (e' ∷ es') = (e.0 ≡ e'.0) × ComesTo e.1 e'.1 × HaveCome es es'
HaveCome es es' = ⊥

-- no call has been made between the two boards
pub record IsSince (s s' : BoardState) : Type 0 where
  pub store : s'.store ≡ s.store
  pub creates : s'.creates ≡ s.creates
  pub tasks : HaveCome s.tasks s'.tasks

-- the board is that of a history: the history leads to a board, since which no call has been made
abbrev pub IsReplay : List Entry → BoardState → Type 0
IsReplay es b = (s : BoardState) × Replays empty es s × IsSince s b

-- ---- but for slots

-- the same board, but for the slots of its tasks
pub record IsAlike (s s' : BoardState) : Type 0 where
  pub store : s.store ≡ s'.store
  pub creates : s.creates ≡ s'.creates
  pub tasks : (id : List ℕ) → task_of id s.tasks ≡ task_of id s'.tasks
