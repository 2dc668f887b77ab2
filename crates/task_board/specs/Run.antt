-- Whole lists of events, and what running out of memory means in them.
use Rattle.std.specs.Prelude.{◌≡◌, ◌&&◌, List, [], ◌∷◌, Bool, true, false, Err, MatchBool}
use Rattle.wasm_ast.specs.declared.refusal.Refusal.TheVariants as refusal
use Rattle.task_requests.specs.declared.event.Event.{Event}
use Rattle.task_requests.specs.declared.event.Event.TheVariants as event
use Rattle.task_requests.specs.declared.event.EventReply.{EventReply}
use Rattle.task_requests.specs.declared.event.EventReply.TheVariants as answer
use Rattle.task_requests.specs.Memory.{takes_memory}
use Rattle.task_board.specs.BoardState.{BoardState}
use Rattle.task_board.specs.Step.{Answer, Step}

abbrev pub is_no_memory : Answer → Bool
is_no_memory (Err refusal.NoMemory) = true
is_no_memory other = false

-- the event ran out of memory: only a request that allocates can
abbrev pub met_no_memory : Event → EventReply → Bool
met_no_memory (event.Call r) (answer.Called a) = takes_memory r && is_no_memory a
met_no_memory e a = false

-- an event happens, or it ran out of memory and nothing has changed
abbrev pub Happens : BoardState → Event → EventReply → BoardState → Type 0
Happens s e a s' = MatchBool (met_no_memory e a) (s' ≡ s) (Step s e a s')

-- the events happen one after another, with these replies
abbrev pub Run : BoardState → List Event → List EventReply → BoardState → Type 0
Run s [] [] s' = s' ≡ s
Run s (e ∷ es) (a ∷ answers) s' = (mid : BoardState) × Happens s e a mid × Run mid es answers s'
Run s es answers s' = ⊥
