-- What an event may make of a task.
use Rattle.std.specs.Prelude.{◌≡◌, ℕ, ◌+◌, List, [], ◌∷◌, true, Option, Some, None}
use Rattle.wasm_ast.specs.declared.place.Place.{Place}
use Rattle.task_requests.specs.declared.event.Event.{Event}
use Rattle.task_requests.specs.declared.event.Event.TheVariants as event
use Rattle.task_requests.specs.declared.request.Request.TheVariants as request
use Rattle.task_requests.specs.declared.request.Ask.TheVariants as ask
use Rattle.task_lifecycle.specs.declared.lifecycle.TaskCall.TheVariants as call
use Rattle.task_lifecycle.specs.declared.status.Status.TheVariants.{Running}
use Rattle.task_lifecycle.specs.declared.status.Signal.{Signal}
use Rattle.task_lifecycle.specs.Lifecycle.{allowed}
use Rattle.task_board.specs.BoardState.{Task}
use Rattle.task_board.specs.Tasks.{started, paused, resumed, killed, with_break, without_break, advanced, can_lend, lent, slice_turns, HasReturned, stepped}
use Rattle.task_board.specs.Step.{is_budget}

-- slices of these budgets, taken of a task one after another, make k turns in all; each but the last returns
-- it running
abbrev pub MakeTurns : Task → (budgets : List ℕ) → (k : ℕ) → Type 0
MakeTurns t [] k = ⊥
MakeTurns t (budget ∷ []) k = (is_budget budget ≡ true) × (k ≡ slice_turns t budget)
MakeTurns t (budget ∷ next ∷ budgets) k =
    (is_budget budget ≡ true) × ((advanced t (slice_turns t budget)).status ≡ Running)
    × (j : ℕ) × (k ≡ slice_turns t budget + j)
    × MakeTurns (advanced t (slice_turns t budget)) (next ∷ budgets) j

-- a task stays as it is, or one of these happens to it
pub data Moves (t t' : Task) : Type 0 where
  stays : t' ≡ t → Moves t t'
  starts : allowed call.Start t.status ≡ true → t' ≡ started t → Moves t t'
  pauses : allowed call.Pause t.status ≡ true → t' ≡ paused t → Moves t t'
  resumes : allowed call.Resume t.status ≡ true → t' ≡ resumed t → Moves t t'
  is_killed :
      (signal : Signal) → allowed call.Kill t.status ≡ true → t' ≡ killed signal t → Moves t t'
  -- its slice is taken, which only that of a running idle task is; its turns stay
  is_taken : (budget : ℕ) → can_lend t ≡ true → t' ≡ lent t budget → Moves t t'
  returns : HasReturned t t' → Moves t t'
  -- its turns and its status stay
  has_break : (p : Place) → allowed call.Break t.status ≡ true → t' ≡ with_break t p → Moves t t'
  loses_break :
      (p : Place) → allowed call.Unbreak t.status ≡ true → t' ≡ without_break t p → Moves t t'
  steps : (count : ℕ) → allowed call.Step t.status ≡ true → t' ≡ stepped t count → Moves t t'

-- what is in its slot afterwards: the task, or nothing if it was deleted
pub data Becomes (t : Task) : Option Task → Type 0 where
  goes : allowed call.Delete t.status ≡ true → Becomes t None
  remains : (t' : Task) → Moves t t' → Becomes t (Some t')

-- the event is a step of this task
abbrev pub IsStepOf : Event → Task → Type 0
IsStepOf (event.Call (request.Task id (ask.Step count))) t = id ≡ t.id
IsStepOf other t = ⊥
