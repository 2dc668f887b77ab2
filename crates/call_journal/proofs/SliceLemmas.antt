-- What a history says of slices, some slices do.
use Rattle.std.proofs.Common.{◌≡◌, ℕ, ◌+◌, ◌-◌, ◌<◌, ◌≤◌, List, [], ◌∷◌, true, false, ◌||◌, ◌&&◌, bytes_eq, Option, Some, None, is_none, is_some, option_and_then, inl, inr, refl, sym, ap, ◌∙◌, subst, arith}
use Rattle.step_machine.specs.Configuration.{running}
use Rattle.step_machine.specs.Instantiation.{ended}
use Rattle.step_machine.specs.Slices.{ends_slice}
use Rattle.task_lifecycle.specs.declared.status.Status.{Status}
use Rattle.task_lifecycle.specs.declared.status.Status.TheVariants.{Created, Running, Pausing, Paused, Stopped}
use Rattle.task_lifecycle.specs.Lifecycle.{takes_turns, is_running, is_pausing}
use Rattle.task_requests.specs.declared.event.Event.{Event}
use Rattle.task_requests.specs.declared.event.Event.TheVariants as event
use Rattle.task_requests.specs.declared.event.EventReply.{EventReply}
use Rattle.task_requests.specs.declared.event.EventReply.TheVariants as answer
use Rattle.task_board.specs.BoardState.{Task, Entries, BoardState, task_of, with_task, change_task}
use Rattle.task_board.specs.Tasks.{execution_at, is_break_at, advanced, MayAdvance, can_lend, lent, slice_turns, HasReturned}
use Rattle.task_board.specs.Step.{Step, is_budget, lends, taken, Returns}
use Rattle.task_board.specs.Sound.{IsSound}
use Rattle.task_board.specs.Moves.{MakeTurns}
use Rattle.task_board.proofs.EntryLemmas.{by_id, cond_is_true, cond_is_false, same_id}
use Rattle.task_board.proofs.SoundLemmas.{advanced_sound}
use Rattle.task_board.proofs.StepLemmas.{unchanged, lent_sound}
use Rattle.task_board.proofs.LawLemmas.{budget_range}
use Rattle.task_board.proofs.AdvanceLemmas.{goes_on, landing_running}
use Rattle.call_journal.specs.declared.entry.Entry.{Entry}
use Rattle.call_journal.specs.Replay.{Spans, ComesTo, stays, is_taken, advances, is_retaken}
use Rattle.call_journal.specs.Records.{IsOfSlice, Records, slice}
use Rattle.call_journal.proofs.ComingLemmas.{twice}
use Rattle.call_journal.proofs.SinceLemmas.{now_there}

-- ---- boards that slices lead to

-- some events from the first board to the second have this journal
abbrev pub HasRun : BoardState → List Entry → BoardState → Type 0
HasRun s h s' = (es : List Event) × (rs : List EventReply) × Records s es rs h s'

-- slices lead from one board to another
abbrev pub Leads : BoardState → BoardState → Type 0
Leads s mid = (h : List Entry) (s' : BoardState) → HasRun mid h s' → HasRun s h s'

one_slice : (s mid : BoardState) (e : Event) (a : EventReply) → Step s e a mid → (s' : BoardState) → (h : List Entry)
    → HasRun mid h s' → (e' : IsOfSlice e) → HasRun s h s'
one_slice s mid e a step s' h rest of = (e ∷ rest.0, a ∷ rest.1, slice s mid s' e a rest.0 rest.1 h of step rest.2)

take_leads : (s : BoardState) (t : Task) (budget : ℕ) → task_of t.id s.tasks ≡ Some t → can_lend t ≡ true
    → is_budget budget ≡ true → Leads s (with_task s (lent t budget))
take_leads s t budget at can ok h s' rest =
    let step : taken s t.id budget ≡ Some (with_task s (lent t budget)) =
    cond_is_true (is_budget budget) (option_and_then (lends s budget) (task_of t.id s.tasks)) None ok
    ∙ (ap (option_and_then (lends s budget)) at
    ∙ cond_is_true (can_lend t) (Some (with_task s (lent t budget))) None can) in
    one_slice s (with_task s (lent t budget)) (event.Take t.id budget) (answer.Taken true) step s' h rest tt

return_leads : (s : BoardState) (t t' : Task) → task_of t.id s.tasks ≡ Some t → HasReturned t t'
    → Leads s (with_task s t')
return_leads s t t' at back h s' rest =
    let step : Returns s (task_of t.id s.tasks) (with_task s t') =
    subst (λ (o : Option Task). Returns s o (with_task s t')) (sym at) (t', back, refl) in
    one_slice s (with_task s t') (event.Return t.id) (answer.Returned true) step s' h rest tt

-- ---- a task that is changed twice

change_twice : (u v : Task) (es : Entries) → u.id ≡ v.id → change_task v (change_task u es) ≡ change_task v es
change_twice u v [] same = refl
change_twice u v (e ∷ es) same =
    by_id e.1.id u.id
    (λ y is.
    ap (change_task v) (cond_is_true (bytes_eq e.1.id u.id) ((e.0, u) ∷ es) (e ∷ change_task u es) y)
    ∙ (cond_is_true (bytes_eq u.id v.id) ((e.0, v) ∷ es) ((e.0, u) ∷ change_task v es) (same_id u.id v.id same) ∙ sym
    (cond_is_true (bytes_eq e.1.id v.id) ((e.0, v) ∷ es) (e ∷ change_task v es) (same_id e.1.id v.id (is ∙ same)))))
    (λ n other.
    let off : bytes_eq e.1.id v.id ≡ false = ap (bytes_eq e.1.id) (sym same) ∙ n in
    ap (change_task v) (cond_is_false (bytes_eq e.1.id u.id) ((e.0, u) ∷ es) (e ∷ change_task u es) n)
    ∙ (cond_is_false (bytes_eq e.1.id v.id) ((e.0, v) ∷ change_task u es) (e ∷ change_task v (change_task u es)) off
    ∙ (ap (λ (xs : Entries). e ∷ xs) (change_twice u v es same)
    ∙ sym (cond_is_false (bytes_eq e.1.id v.id) ((e.0, v) ∷ es) (e ∷ change_task v es) off))))

-- from the task to u, and then to v
lead_on : (s : BoardState) (u v : Task) → u.id ≡ v.id → Leads s (with_task s u)
    → Leads (with_task s u) (with_task (with_task s u) v) → Leads s (with_task s v)
lead_on s u v same first then_on h s' rest =
    let is : with_task (with_task s u) v ≡ with_task s v =
    ap (λ (es : Entries). record s { tasks = es }) (change_twice u v s.tasks same) in
    first h s' (then_on h s' (subst (λ (x : BoardState). HasRun x h s') (sym is) rest))

there : (s : BoardState) (t u : Task) → u.id ≡ t.id → task_of t.id s.tasks ≡ Some t
    → task_of u.id (with_task s u).tasks ≡ Some u
there s t u same at = now_there u t s.tasks (ap (λ (x : List ℕ). task_of x s.tasks) same ∙ at)

-- ---- part of the turns

-- a running task that may make a + j turns is running after a of them, and may make the others
record CanGoOn (t : Task) (a j : ℕ) : Type 0 where
  pub running : (advanced t a).status ≡ Running
  pub may : MayAdvance (advanced t a) j

can_go_on : (t : Task) (a j : ℕ) → t.status ≡ Running → t.signal ≡ None → 1 ≤ a → 1 ≤ j → MayAdvance t (a + j)
    → CanGoOn t a j
can_go_on t a j is quiet low some may = record {
  running = runs;
  may = record {
    status = ap takes_turns runs;
    some = some;
    goes = part.0;
    uncut = λ i first last.
        let at : t.turns + (a + i) ≡ (t.turns + a) + i = omega arith in
        subst (λ (n : ℕ). ends_slice t.breaks (execution_at t n) ≡ false) at
        (may.uncut (a + i) (omega (arith, first)) (omega (arith, last)));
  };
}
  where
    part : (ended (execution_at t (t.turns + a)) ≡ None) × (is_break_at t (t.turns + a) ≡ false)
    part = goes_on t.breaks (execution_at t (t.turns + a)) (may.uncut a low (omega (arith, some)))

    runs : (advanced t a).status ≡ Running
    runs =
        landing_running (ended (execution_at t (t.turns + a))) t.signal
        (is_pausing t.status || is_break_at t (t.turns + a)) part.0 quiet
        (ap (λ (x : Status). is_pausing x || is_break_at t (t.turns + a)) is ∙ part.1)

can_again : (status : Status) (o : Option ℕ) → status ≡ Running → o ≡ None → (is_running status && is_none o) ≡ true
can_again status o is idle = rw (is, idle) refl

-- what the board promises of slices
abbrev pub SlicesAdvance : Type 0
SlicesAdvance = (creates : ℕ) (t : Task) (budget : ℕ) → IsSound creates t → t.out ≡ Some budget
    → MayAdvance t (slice_turns t budget)

abbrev pub AdvancesAreSlices : Type 0
AdvancesAreSlices = (creates : ℕ) (t : Task) (k : ℕ) → IsSound creates t → can_lend t ≡ true → MayAdvance t k
    → (budgets : List ℕ) × MakeTurns t budgets k

module _ (legal : SlicesAdvance) (slices : AdvancesAreSlices) (c : ℕ) where
  -- ---- a task that is idle and running

  back : (t : Task) (budget : ℕ) → IsSound c t → t.out ≡ Some budget → HasReturned t (advanced t (slice_turns t budget))
  back t budget sound out = record { budget = budget; out = out; legal = legal c t budget sound out; advances = refl }

  slice_leads : (s : BoardState) (t : Task) (budget : ℕ) → IsSound c t → task_of t.id s.tasks ≡ Some t
      → can_lend t ≡ true → is_budget budget ≡ true → Leads s (with_task s (advanced t (slice_turns t budget)))
  slice_leads s t budget sound at can ok =
      let u = lent t budget in
      lead_on s u (advanced t (slice_turns t budget)) refl (take_leads s t budget at can ok)
      (return_leads (with_task s u) u (advanced t (slice_turns t budget)) (there s t u refl at)
      (back u budget (lent_sound c t budget sound can (budget_range budget ok)) refl))

  turns_lead : (budgets : List ℕ) (s : BoardState) (t : Task) (k : ℕ) → IsSound c t → task_of t.id s.tasks ≡ Some t
      → can_lend t ≡ true → MakeTurns t budgets k → Leads s (with_task s (advanced t k))
  turns_lead [] s t k sound at can made = absurd made
  turns_lead (budget ∷ []) s t k sound at can made =
      subst (λ (n : ℕ). Leads s (with_task s (advanced t n))) (sym made.1) (slice_leads s t budget sound at can made.0)
  turns_lead (budget ∷ next ∷ budgets) s t k sound at can made =
      let a = slice_turns t budget in
      let u = advanced t a in
      let j = made.2 in
      let rest : Leads (with_task s u) (with_task (with_task s u) (advanced u j)) =
      turns_lead (next ∷ budgets) (with_task s u) u j (advanced_sound c t a sound) (there s t u refl at)
      (can_again u.status u.out made.1 refl) made.4 in
      let both : Leads s (with_task s (advanced u j)) =
      lead_on s u (advanced u j) refl (slice_leads s t budget sound at can made.0) rest in
      subst (λ (x : Task). Leads s (with_task s x))
      (twice t a j (ap takes_turns made.1) ∙ ap (advanced t) (sym made.3)) both

  idle_leads : (s : BoardState) (t : Task) (k : ℕ) → IsSound c t → task_of t.id s.tasks ≡ Some t → can_lend t ≡ true
      → MayAdvance t k → Leads s (with_task s (advanced t k))
  idle_leads s t k sound at can may =
      let made = slices c t k sound can may in
      turns_lead made.0 s t k sound at can made.1

  -- ---- any task

  idle_runs : (status : Status) (o : Option ℕ) → o ≡ None → takes_turns status ≡ true
      → (status ≡ Pausing → is_some o ≡ true) → (is_running status && is_none o) ≡ true
  idle_runs Created o none goes out = cc
  idle_runs Running o none goes out = ap (is_none {T = ℕ}) none
  idle_runs Pausing o none goes out = let some = out refl in absurd (by o none some)
    where
      by : (o : Option ℕ) → o ≡ None → is_some o ≡ true → ⊥
      by None none some = cc
      by (Some n) none some = cc
  idle_runs Paused o none goes out = cc
  idle_runs Stopped o none goes out = cc

  -- its slice returns, and it makes the other turns
  longer_leads : (s : BoardState) (t : Task) (budget k : ℕ) → IsSound c t → task_of t.id s.tasks ≡ Some t
      → t.out ≡ Some budget → t.status ≡ Running → t.signal ≡ None → slice_turns t budget < k → MayAdvance t k
      → Leads s (with_task s (advanced t k))
  longer_leads s t budget k sound at out is quiet far may =
      let a = slice_turns t budget in
      let j = k - a in
      let low = (legal c t budget sound out).some in
      let sum : k ≡ a + j = omega (arith, far) in
      let go = can_go_on t a j is quiet low (omega (arith, far)) (subst (MayAdvance t) sum may) in
      let u = advanced t a in
      let both : Leads s (with_task s (advanced u j)) =
      lead_on s u (advanced u j) refl (return_leads s t u at (back t budget sound out))
      (idle_leads (with_task s u) u j (advanced_sound c t a sound) (there s t u refl at)
      (can_again u.status u.out go.running refl) go.may) in
      subst (λ (x : Task). Leads s (with_task s x))
      (twice t a j (ap takes_turns go.running) ∙ ap (advanced t) (sym sum))
      both

  advance_leads : (s : BoardState) (t : Task) (k : ℕ) (o : Option ℕ) → IsSound c t → task_of t.id s.tasks ≡ Some t
      → t.out ≡ o → MayAdvance t k → Spans t k o → Leads s (with_task s (advanced t k))
  advance_leads s t k None sound at out may spans =
      idle_leads s t k sound at (idle_runs t.status t.out out may.status sound.pausing) may
  advance_leads s t k (Some budget) sound at out may (inl same) =
      subst (λ (n : ℕ). Leads s (with_task s (advanced t n))) (sym same)
      (return_leads s t (advanced t (slice_turns t budget)) at (back t budget sound out))
  advance_leads s t k (Some budget) sound at out may (inr far) =
      longer_leads s t budget k sound at out far.1 far.2 far.0 may

  pub coming_leads : (s : BoardState) (t u : Task) → IsSound c t → task_of t.id s.tasks ≡ Some t → ComesTo t u
      → Leads s (with_task s u)
  coming_leads s t _ sound at stays =
      subst (λ (x : BoardState). Leads s x) (sym (unchanged s t.id t at)) (λ h s' rest. rest)
  coming_leads s t _ sound at (is_taken budget can ok) = take_leads s t budget at can ok
  coming_leads s t _ sound at (advances k may spans) = advance_leads s t k t.out sound at refl may spans
  coming_leads s t _ sound at (is_retaken k budget may spans can ok) =
      let u = advanced t k in
      lead_on s u (lent u budget) refl (advance_leads s t k t.out sound at refl may spans)
      (take_leads (with_task s u) u budget (there s t u refl at) can ok)

  pub coming_sound : (t u : Task) → IsSound c t → ComesTo t u → IsSound c u
  coming_sound t _ sound stays = sound
  coming_sound t _ sound (is_taken budget can ok) = lent_sound c t budget sound can (budget_range budget ok)
  coming_sound t _ sound (advances k may spans) = advanced_sound c t k sound
  coming_sound t _ sound (is_retaken k budget may spans can ok) =
      lent_sound c (advanced t k) budget (advanced_sound c t k sound) can (budget_range budget ok)
