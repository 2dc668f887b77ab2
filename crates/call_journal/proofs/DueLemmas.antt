-- A wait that is due is not answered Busy.
use Rattle.std.proofs.lemmas.Bool.{eqb-true}
use Rattle.std.proofs.Common.{◌≡◌, ℕ, List, length, Bool, true, false, Option, Some, None, Err, ap, refl}
use Rattle.std.specs.Prelude.{◌↔◌, ◌||◌, not, if◌then◌else◌}
use Rattle.wasm_ast.specs.Identifiers.{is_id}
use Rattle.wasm_ast.specs.declared.refusal.Refusal.TheVariants as refusal
use Rattle.task_lifecycle.specs.declared.lifecycle.TaskCall.TheVariants as call
use Rattle.task_lifecycle.specs.Lifecycle.{allowed}
use Rattle.task_requests.specs.declared.request.Request.TheVariants as request
use Rattle.task_requests.specs.declared.request.Ask.TheVariants as ask
use Rattle.task_board.specs.BoardState.{Task, BoardState, task_of}
use Rattle.task_board.specs.Refusals.{unless_allowed}
use Rattle.task_board.specs.Settled.{is_settled}
use Rattle.task_board.specs.Step.{Answer, DecidedBy, OnFound, does}
use Rattle.call_journal.specs.Books.{BookValue, HasCalled, is_due, is_full, is_journalled}
use Rattle.call_journal.specs.Seats.{Known, most_entries}

module _ (s s' : BoardState) (a : Answer) (busy : a ≡ Err refusal.Busy) where
  no_task : (b : Bool) → DecidedBy (if not b then Some refusal.BadId else Some refusal.NotFound) ⊥ s a s' → ⊥
  no_task true d = let is = d.0 in cc
  no_task false d = let is = d.0 in cc

  allowed_task : (b w : Bool) (E : Type 0) → w ≡ true → (E → ⊥)
      → DecidedBy (if not b then Some refusal.BadId else if not w then Some refusal.Busy else None) E s a s' → ⊥
  allowed_task false w E may none d = let is = d.0 in cc
  allowed_task true true E may none d = none d
  allowed_task true false E may none d = cc

  settled : (id : List ℕ) (o : Option Task) → is_settled o ≡ true
      → OnFound id (unless_allowed call.Wait refusal.Busy) (does ask.Wait) o s a s' → ⊥
  settled id None due d = no_task (is_id id) d
  settled id (Some t) due d =
      allowed_task (is_id id) (allowed call.Wait t.status) _ due (λ both. let is = both.0 in cc) d

due_or_full : (old new : BookValue) (was now : Known) (id : List ℕ) (a : Answer) (b : Bool)
    → (b || is_settled (task_of id old.board.tasks)) ≡ true → (b ≡ true → a ≡ Err refusal.JournalFull)
    → HasCalled old new was now (request.Task id ask.Wait) a → a ≡ Err refusal.Busy → ⊥
due_or_full old new was now id a true due full called busy = let none = full refl in cc
due_or_full old new was now id a false due full called busy =
    settled old.board new.board a busy id (task_of id old.board.tasks) due
    called.answers

due_or_closed : (old new : BookValue) (was now : Known) (id : List ℕ) (a : Answer) (b : Bool)
    → (b || (is_full old || is_settled (task_of id old.board.tasks))) ≡ true → (b ≡ true → a ≡ Err refusal.Closed)
    → (b ≡ false → is_full old ≡ true → a ≡ Err refusal.JournalFull)
    → HasCalled old new was now (request.Task id ask.Wait) a → a ≡ Err refusal.Busy → ⊥
due_or_closed old new was now id a true due closed full called busy = let shut = closed refl in cc
due_or_closed old new was now id a false due closed full called busy =
    due_or_full old new was now id a (is_full old) due (full refl) called busy

pub never_busy : (old new : BookValue) (was now : Known) (id : List ℕ) (a : Answer) → is_due old id ≡ true
    → ((a ≡ Err refusal.Closed) ↔ (old.closed ≡ true)) → ((a ≡ Err refusal.JournalFull) ↔ ((old.closed ≡ false)
    × (length old.journal ≡ most_entries)))
    → (is_journalled a ≡ true → HasCalled old new was now (request.Task id ask.Wait) a) → a ≡ Err refusal.Busy → ⊥
never_busy old new was now id a due closed full called busy =
    due_or_closed old new was now id a old.closed due closed.1
    (λ shut most. full.1 (shut, eqb-true (length old.journal) most_entries most)) (called (ap is_journalled busy)) busy
