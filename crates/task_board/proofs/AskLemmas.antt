-- What is asked of a task: what a plan of it says of the board.
use Rattle.std.proofs.Common.{◌≡◌, ◌≢◌, ℕ, ◌<◌, ◌≤◌, List, [], ◌∷◌, ◌++◌, nat_le, length, Bool, true, false, cond, not, Option, Some, None, option_map, Result, Ok, Err, IfOk, refl, sym, ap, ◌∙◌, subst, arith}
use Rattle.std.proofs.lemmas.Bool.Decides.{nat_tests}
use Rattle.wasm_ast.specs.declared.refusal.Refusal.{Refusal}
use Rattle.wasm_ast.specs.declared.refusal.Refusal.TheVariants as refusal
use Rattle.wasm_ast.specs.declared.place.Place.{Place}
use Rattle.wasm_ast.specs.Identifiers.{is_id}
use Rattle.step_machine.specs.Limits.{max_breakpoints}
use Rattle.step_machine.specs.Places.{has_place}
use Rattle.step_machine.specs.Slices.{is_among}
use Rattle.task_lifecycle.specs.declared.lifecycle.TaskCall.{TaskCall}
use Rattle.task_lifecycle.specs.declared.status.Signal.TheVariants as signal
use Rattle.task_lifecycle.specs.Lifecycle.{allowed}
use Rattle.content_leases.specs.Refusals.{Refusals, first_refusal}
use Rattle.task_requests.specs.declared.request.Request.TheVariants as request
use Rattle.task_requests.specs.declared.request.Reply.{Reply}
use Rattle.task_requests.specs.declared.request.Ask.{Ask}
use Rattle.task_requests.specs.declared.request.Ask.TheVariants as ask
use Rattle.task_board.specs.declared.change.Change.{Change}
use Rattle.task_board.specs.declared.change.Change.TheVariants as change
use Rattle.task_board.specs.declared.prepared.Plan.{Plan}
use Rattle.task_board.specs.declared.prepared.Plan.TheVariants as plan
use Rattle.task_board.specs.BoardState.{Task, BoardState, entry_of, task_of}
use Rattle.task_board.specs.BoardValue.{Room}
use Rattle.task_board.specs.Refusals.{task_refusals, own_refusals, place_refusals}
use Rattle.task_board.specs.Step.{with_left, does, Answers}
use Rattle.task_board.specs.Inside.Changes.{change_call, change_ask, IsPlain}
use Rattle.task_board.specs.Inside.Marks.{mark_ask}
use Rattle.task_board.specs.Inside.Plans.{IsAccepted, Names, CallPrepared, MarkPrepared, PlansAsk, Plans}
use Rattle.task_board.proofs.EffectLemmas.{accepted_on, refused_on}
use Rattle.task_board.proofs.StepLemmas.{unchanged}

-- ---- on a board

module _ (s : BoardState) (id : List ℕ) (a : Ask) where
  -- a refusal that is none of memory is answered
  refuses : (room : Room) (e : Refusal) → e ≢ refusal.NoMemory
      → first_refusal (task_refusals id (own_refusals a) (task_of id s.tasks)) ≡ Some e
      → Plans s room (request.Task id a) (plan.Refused e)
  refuses room e known h = (known, refused_on s id (own_refusals a) (does a) (task_of id s.tasks) e h)

  module _ (slot : ℕ) (t : Task) (named : is_id id ≡ true) (found : entry_of id s.tasks ≡ Some (slot, t)) where
    at : task_of id s.tasks ≡ Some t
    at = ap (option_map (λ (e : ℕ × Task). e.1)) found

    -- the id lets it through, so the request's own refusals decide
    own_first : first_refusal (task_refusals id (own_refusals a) (Some t)) ≡ first_refusal (own_refusals a t)
    own_first = ap (λ (b : Bool). cond (not b) (Some refusal.BadId) (first_refusal (own_refusals a t))) named

    accepted : (b : Ask) → a ≡ b → IsAccepted a t → first_refusal (task_refusals id (own_refusals b) (Some t)) ≡ None
    accepted b is h =
        subst (λ (x : Ask). first_refusal (task_refusals id (own_refusals x) (Some t)) ≡ None) is (own_first ∙ h)

    by_names : (P : ℕ → List ℕ → Type 0) (slot' : ℕ) (id' : List ℕ) → Names slot id slot' id' → P slot id → P slot' id'
    by_names P slot' id' names p =
        subst (λ (n : List ℕ). P slot' n) (sym names.1) (subst (λ (i : ℕ). P i id) (sym names.0) p)

    call : (b : Ask) (slot' : ℕ) (id' : List ℕ) → a ≡ b → IsAccepted a t → Names slot id slot' id'
        → CallPrepared s (own_refusals b) slot' id'
    call b slot' id' is h names =
        by_names (CallPrepared s (own_refusals b)) slot' id' names
        (record { task = t; found = found; accepted = accepted b is h })

    same : (b : Ask) (id' : List ℕ) → a ≡ b → id' ≡ id → request.Task id a ≡ request.Task id' b
    same b id' is name = ap (λ (n : List ℕ). request.Task n a) (sym name) ∙ ap (request.Task id') is

    -- what is prepared of a task that is there is prepared on the board
    planned : (room : Room) (p : Plan) → PlansAsk t slot id a p → Plans s room (request.Task id a) p
    planned room (plan.Refused e) h =
        refuses room e h.0
        (ap (λ (o : Option Task). first_refusal (task_refusals id (own_refusals a) o)) at ∙ (own_first ∙ h.1))
    planned room (plan.Answered reply) h =
        let done =
        accepted_on s id (own_refusals a) (does a) t s at (own_first ∙ h.0)
        (sym (ap (with_left s t) (h.1 t) ∙ unchanged s id t at)) in (
          h.1,
          subst (λ (r : Reply). Answers s (request.Task id a) (Ok r) s) (sym h.2) done,
        )
    planned room (plan.Change c slot' id') h = (
      same (change_ask c) id' h.0 h.2.1,
      call (change_ask c) slot' id' h.0 h.1 h.2,
    )
    planned room (plan.Delete slot' id') h = (same ask.Delete id' h.0 h.2.1, call ask.Delete slot' id' h.0 h.1 h.2)
    planned room (plan.Breaks m slot' id' b) h = (
      same (mark_ask m) id' h.0 h.2.1,
      by_names (λ (i : ℕ) (n : List ℕ). MarkPrepared s m i n b) slot' id' h.2
          (record {
            call = record { task = t; found = found; accepted = accepted (mark_ask m) h.0 h.1 };
            own = h.3;
            lent = h.4;
          }),
    )
    planned room (plan.Store c) h = absurd h
    planned room (plan.Create task id') h = absurd h

    pub planned_if : {E : Type 0} (room : Room) (r : Result Plan E) → IfOk r (PlansAsk t slot id a)
        → IfOk r (λ p. Plans s room (request.Task id a) p)
    planned_if {E} room (Ok p) h = planned room p h
    planned_if {E} room (Err e) h = tt

-- ---- a change, by the task's status

pub change_accepted :
    (c : Change) (t : Task) → IsPlain c → allowed (change_call c) t.status ≡ true → IsAccepted (change_ask c) t
change_accepted (change.Kill signal.Kill) t plain can = rw can refl
change_accepted (change.Step count) t plain can = absurd plain
change_accepted _ t plain can = rw can refl

pub change_refused : (c : Change) (t : Task) → IsPlain c → allowed (change_call c) t.status ≡ false
    → first_refusal (own_refusals (change_ask c) t) ≡ Some refusal.WrongStatus
change_refused (change.Kill signal.Kill) t plain cannot = rw cannot refl
change_refused (change.Step count) t plain cannot = absurd plain
change_refused _ t plain cannot = rw cannot refl

-- ---- an instruction of a task

module _ (t : Task) (func place : ℕ) (c : TaskCall) (rest : Refusals) where
  -- a refusal of the first two is one of all
  pub place_refused : (e : Refusal) → first_refusal (place_refusals c func place t) ≡ Some e
      → (e ≢ refusal.NoMemory) × (first_refusal (place_refusals c func place t ++ rest) ≡ Some e)
  place_refused e h = by (not (allowed c t.status)) (not (has_place t.module func place)) h
    where
      by : (a b : Bool) → cond a (Some refusal.WrongStatus) (cond b (Some refusal.OutOfRange) None) ≡ Some e
          → (e ≢ refusal.NoMemory)
          × (cond a (Some refusal.WrongStatus) (cond b (Some refusal.OutOfRange) (first_refusal rest)) ≡ Some e)
      by true b g = (λ is. cc, g)
      by false true g = (λ is. cc, g)
      by false false g = cc

  -- if neither concerns it, the rest decide
  pub place_accepted : first_refusal (place_refusals c func place t) ≡ None
      → first_refusal (place_refusals c func place t ++ rest) ≡ first_refusal rest
  place_accepted h = by (not (allowed c t.status)) (not (has_place t.module func place)) h
    where
      by : (a b : Bool) → cond a (Some refusal.WrongStatus) (cond b (Some refusal.OutOfRange) None) ≡ None
          → cond a (Some refusal.WrongStatus) (cond b (Some refusal.OutOfRange) (first_refusal rest))
          ≡ first_refusal rest
      by true b g = cc
      by false true g = cc
      by false false g = refl

-- what is left of the refusals of a breakpoint
abbrev pub break_rest : (func place : ℕ) → Task → Refusals
break_rest func place t =
    (is_among t.breaks func place, refusal.Exists) ∷ (nat_le max_breakpoints (length t.breaks), refusal.TooMany) ∷ []

abbrev pub unbreak_rest : (func place : ℕ) → Task → Refusals
unbreak_rest func place t = (not (is_among t.breaks func place), refusal.NotFound) ∷ []

pub is_full : (bs : List Place) → max_breakpoints ≤ length bs → nat_le max_breakpoints (length bs) ≡ true
is_full bs many = grind (arith, nat_tests, many)

pub has_room : (bs : List Place) → length bs < max_breakpoints → nat_le max_breakpoints (length bs) ≡ false
has_room bs room = grind (arith, nat_tests, room)
