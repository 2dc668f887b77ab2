-- A running task may advance by what slices make: by one turn at a time, and by any slices that leave it running.
use Rattle.std.proofs.Common.{◌≡◌, ℕ, zero, suc, ◌+◌, ◌-◌, ◌<◌, ◌≤◌, nat_eq, nat_lt, List, [], ◌∷◌, Bool, true, false, cond, ◌||◌, Option, Some, None, is_some, is_none, refl, sym, ap, ◌∙◌, subst, arith}
use Rattle.std.proofs.lemmas.Bool.{and_parts, or_parts}
use Rattle.std.proofs.lemmas.Bool.Decides.{nat_tests}
use Rattle.wasm_ast.specs.declared.module.Module.{Module}
use Rattle.wasm_ast.specs.declared.place.Place.{Place}
use Rattle.oci_config.specs.declared.process.ProcessConfig.{ProcessConfig}
use Rattle.step_machine.specs.declared.ends.End.{End}
use Rattle.step_machine.specs.declared.ends.End.TheVariants as own
use Rattle.step_machine.specs.Configuration.{State as ExecutionState, running, exited, trapped, stuck, is_halted}
use Rattle.step_machine.specs.Instantiation.{ended}
use Rattle.step_machine.specs.Slices.{at_break, ends_slice, turns_made}
use Rattle.task_lifecycle.specs.declared.status.Status.{Status}
use Rattle.task_lifecycle.specs.declared.status.Status.TheVariants.{Running}
use Rattle.task_lifecycle.specs.declared.status.Signal.{Signal}
use Rattle.task_lifecycle.specs.Lifecycle.{takes_turns, is_running, is_pausing, is_going}
use Rattle.task_board.specs.BoardState.{Task}
use Rattle.task_board.specs.Tasks.{execution_at, is_break_at, landing, advanced, can_lend, slice_turns, MayAdvance}
use Rattle.task_board.specs.Sound.{IsSound}
use Rattle.task_board.specs.Step.{is_budget}
use Rattle.task_board.specs.Moves.{MakeTurns}
use Rattle.task_board.proofs.StepLemmas.{none_of, running_only, GoForward, StopFirst}
use Rattle.task_board.proofs.LawLemmas.{budget_range}

-- what the machine promises of slices: no more turns than the budget
abbrev pub AtMost : Type 0
AtMost = (m : Module) (p : ProcessConfig) (n : ℕ) (bs : List Place) (budget : ℕ) → turns_made m p n bs budget ≤ budget

-- ---- what has halted has ended

same_halt : (s : ExecutionState) → is_halted s ≡ is_some (ended s)
same_halt (running t) = by _
  where
    by : (b : Bool) → b ≡ is_some (cond b (Some own.Returned) None)
    by true = refl
    by false = refl
same_halt (exited n) = refl
same_halt (trapped t) = refl
same_halt stuck = refl

-- a slice goes on where there is neither an end nor a breakpoint
pub goes_on :
    (bs : List Place) (s : ExecutionState) → ends_slice bs s ≡ false → (ended s ≡ None) × (at_break bs s ≡ false)
goes_on bs s off =
    let both = or_parts (is_halted s) (at_break bs s) off in
    (none_of (ended s) (sym (same_halt s) ∙ both.0), both.1)

pub no_cut : (bs : List Place) (s : ExecutionState) → ended s ≡ None → at_break bs s ≡ false → ends_slice bs s ≡ false
no_cut bs s none off = ap (λ (b : Bool). b || at_break bs s) (same_halt s ∙ ap is_some none) ∙ off

-- ---- where a task lands that is running again

pub landing_running :
    (o : Option End) (signal : Option Signal) (pauses : Bool) → o ≡ None → signal ≡ None → pauses ≡ false
    → (landing o signal pauses).0 ≡ Running
landing_running o signal pauses none quiet off = rw (none, quiet, off) refl

running_landing : (o : Option End) (signal : Option Signal) (pauses : Bool) → (landing o signal pauses).0 ≡ Running
    → (o ≡ None) × (pauses ≡ false)
running_landing (Some e) signal pauses h = cc
running_landing None (Some s) pauses h = cc
running_landing None None true h = cc
running_landing None None false h = (refl, refl)

pauses_not : (status : Status) (b : Bool) → status ≡ Running → b ≡ false → (is_pausing status || b) ≡ false
pauses_not status b is off = ap (λ (x : Status). is_pausing x || b) is ∙ off

module _ (forward : GoForward) (first : StopFirst) (most : AtMost) where
  -- ---- by one turn at a time

  one_turn : (t : Task) → ended (execution_at t t.turns) ≡ None → slice_turns t 1 ≡ 1
  one_turn t none =
      let low = forward t.module t.process t.turns t.breaks 1 none (omega arith) in
      let high = most t.module t.process t.turns t.breaks 1 in
      omega (arith, low, high)

  -- the first turn of several leaves it running
  first_turn : (t : Task) (k : ℕ) → t.status ≡ Running → t.signal ≡ None → MayAdvance t (suc (suc k))
      → (advanced t 1).status ≡ Running
  first_turn t k is quiet h =
      let goes = goes_on t.breaks (execution_at t (t.turns + 1)) (h.uncut 1 (omega arith) (omega arith)) in
      landing_running (ended (execution_at t (t.turns + 1))) t.signal
      (is_pausing t.status || is_break_at t (t.turns + 1)) goes.0 quiet
      (pauses_not t.status (is_break_at t (t.turns + 1)) is goes.1)

  -- and it may make the others
  other_turns : (t : Task) (k : ℕ) → t.status ≡ Running → t.signal ≡ None → MayAdvance t (suc (suc k))
      → MayAdvance (advanced t 1) (suc k)
  other_turns t k is quiet h = record {
    status = ap takes_turns (first_turn t k is quiet h);
    some = omega arith;
    goes = (goes_on t.breaks (execution_at t (t.turns + 1)) (h.uncut 1 (omega arith) (omega arith))).0;
    uncut = λ j low high.
        let at : t.turns + (1 + j) ≡ (t.turns + 1) + j = omega arith in
        subst (λ (n : ℕ). ends_slice t.breaks (execution_at t n) ≡ false) at
        (h.uncut (1 + j) (omega (arith, low)) (omega (arith, high)));
  }

  joined : (t : Task) (a j : ℕ) (budgets : List ℕ) → slice_turns t 1 ≡ a → (advanced t a).status ≡ Running
      → MakeTurns (advanced t a) budgets j → MakeTurns t (1 ∷ budgets) (a + j)
  joined t a j [] is runs rest = absurd rest
  joined t a j (next ∷ budgets) is runs rest =
      let P : ℕ → Type 0 =
      λ n. ((advanced t n).status ≡ Running) × (i : ℕ) × (a + j ≡ n + i)
      × MakeTurns (advanced t n) (next ∷ budgets) i in
      let made = subst P (sym is) (runs, j, refl, rest) in (refl, made.0, made.1, made.2, made.3)

  pub by_turns : (k : ℕ) (t : Task) → t.status ≡ Running → t.signal ≡ None → MayAdvance t k
      → (budgets : List ℕ) × MakeTurns t budgets k
  by_turns zero t is quiet h = let some = h.some in absurd (omega (arith, some))
  by_turns (suc zero) t is quiet h = (1 ∷ [], (refl, sym (one_turn t h.goes)))
  by_turns (suc (suc k)) t is quiet h =
      let rest = by_turns (suc k) (advanced t 1) (first_turn t k is quiet h) refl (other_turns t k is quiet h) in
      let sum : 1 + suc k ≡ suc (suc k) = omega arith in (
        1 ∷ rest.0,
        subst (MakeTurns t (1 ∷ rest.0)) sum
            (joined t 1 (suc k) rest.0 (one_turn t h.goes) (first_turn t k is quiet h) rest.1),
      )

  -- ---- by slices

  slice : (t : Task) (budget : ℕ) → is_budget budget ≡ true → t.status ≡ Running
      → ended (execution_at t t.turns) ≡ None → MayAdvance t (slice_turns t budget)
  slice t budget low is goes = record {
    status = ap takes_turns is;
    some = forward t.module t.process t.turns t.breaks budget goes (budget_range budget low).0;
    goes = goes;
    uncut = λ j. first t.module t.process t.turns t.breaks budget j;
  }

  -- a slice that leaves it running, and then j turns
  longer : (t : Task) (a j : ℕ) → MayAdvance t a → (advanced t a).status ≡ Running → MayAdvance (advanced t a) j
      → MayAdvance t (a + j)
  longer t a j h runs rest = record {
    status = h.status;
    some = let some = h.some in omega (arith, some);
    goes = h.goes;
    uncut = λ i low high. by i low high (nat_lt i a) refl (nat_eq i a) refl;
  }
    where
      lands : (ended (execution_at t (t.turns + a)) ≡ None)
          × ((is_pausing t.status || is_break_at t (t.turns + a)) ≡ false)
      lands =
          running_landing (ended (execution_at t (t.turns + a))) t.signal
          (is_pausing t.status || is_break_at t (t.turns + a)) runs

      here : ends_slice t.breaks (execution_at t (t.turns + a)) ≡ false
      here =
          no_cut t.breaks (execution_at t (t.turns + a)) lands.0
          (or_parts (is_pausing t.status) (is_break_at t (t.turns + a)) lands.1).1

      by : (i : ℕ) → 1 ≤ i → i < a + j → (b : Bool) → nat_lt i a ≡ b → (c : Bool) → nat_eq i a ≡ c
          → ends_slice t.breaks (execution_at t (t.turns + i)) ≡ false
      by i low high true is c at = let below : i < a = grind (arith, nat_tests, is) in h.uncut i low below
      by i low high false off true at =
          let same : i ≡ a = grind (arith, nat_tests, at) in
          subst (λ (n : ℕ). ends_slice t.breaks (execution_at t (t.turns + n)) ≡ false) (sym same) here
      by i low high false off false away =
          let above : a < i = grind (arith, nat_tests, off, away) in
          let at : (t.turns + a) + (i - a) ≡ t.turns + i = omega (arith, above) in
          subst (λ (n : ℕ). ends_slice t.breaks (execution_at t n) ≡ false) at
          (rest.uncut (i - a) (omega (arith, above)) (omega (arith, above, high)))

  pub by_slices : (budgets : List ℕ) (t : Task) (k : ℕ) → t.status ≡ Running
      → ended (execution_at t t.turns) ≡ None → MakeTurns t budgets k → MayAdvance t k
  by_slices [] t k is goes made = absurd made
  by_slices (budget ∷ []) t k is goes made = subst (MayAdvance t) (sym made.1) (slice t budget made.0 is goes)
  by_slices (budget ∷ next ∷ budgets) t k is goes made =
      let a = slice_turns t budget in
      let lands =
      running_landing (ended (execution_at t (t.turns + a))) t.signal
      (is_pausing t.status || is_break_at t (t.turns + a)) made.1 in
      subst (MayAdvance t) (sym made.3)
      (longer t a made.2 (slice t budget made.0 is goes) made.1
      (by_slices (next ∷ budgets) (advanced t a) made.2 made.1 lands.0 made.4))

-- ---- what a sound task that can be lent is

not_some : (o : Option Signal) → (is_some o ≡ true → ⊥) → o ≡ None
not_some None h = refl
not_some (Some s) h = absurd (h refl)

none_idle : (o : Option ℕ) → is_none o ≡ true → is_some o ≡ true → ⊥
none_idle None idle out = cc
none_idle (Some n) idle out = cc

-- it is running, no signal is pending, and it has not ended
pub can_lend_parts : (creates : ℕ) (t : Task) → IsSound creates t → can_lend t ≡ true
    → (t.status ≡ Running) × (t.signal ≡ None) × (ended (execution_at t t.turns) ≡ None)
can_lend_parts creates t h can =
    let both = and_parts (is_running t.status) (is_none t.out) can in
    let is = running_only t.status both.0 in (
      is,
      not_some t.signal (λ s. none_idle t.out both.1 (h.signal s)),
      h.goes (ap is_going is),
    )
