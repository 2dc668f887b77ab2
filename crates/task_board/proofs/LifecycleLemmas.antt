-- Where the calls of the lifecycle lead, and where a task lands whose slice returns.
use Rattle.std.proofs.Common.{◌≡◌, ℕ, ◌+◌, Bool, true, false, cond, ◌||◌, Option, Some, None, is_some, refl, sym, ap, ◌∙◌}
use Rattle.std.specs.Prelude.{unwrap_or}
use Rattle.std.proofs.lemmas.Bool.{or_right}
use Rattle.step_machine.specs.declared.ends.End.{End}
use Rattle.step_machine.specs.Instantiation.{ended}
use Rattle.task_lifecycle.specs.declared.lifecycle.TaskCall.TheVariants as call
use Rattle.task_lifecycle.specs.declared.status.Status.{Status}
use Rattle.task_lifecycle.specs.declared.status.Status.TheVariants.{Running, Pausing, Paused, Stopped}
use Rattle.task_lifecycle.specs.declared.status.Signal.{Signal}
use Rattle.task_lifecycle.specs.declared.status.ExitRecord.{ExitRecord}
use Rattle.task_lifecycle.specs.declared.status.ExitRecord.TheVariants as exit
use Rattle.task_lifecycle.specs.Lifecycle.{after, is_pausing}
use Rattle.task_board.specs.BoardState.{Task}
use Rattle.task_board.specs.Tasks.{execution_at, is_break_at, Standing, exit_of, landing, started, situation_at, killed_while, killed, slice_turns, HasReturned, stepped}
use Rattle.task_board.proofs.EntryLemmas.{none_is_not, some_is}

-- ---- the table of the lifecycle

start_table : (o : Option End) (b : Bool) → (landing o None b).0 ≡ cond (is_some o) Stopped (cond b Paused Running)
start_table (Some e) b = refl
start_table None true = refl
start_table None false = refl

pub started_by_table : (t : Task) → (started t).status ≡ after call.Start (situation_at t t.turns) t.status
started_by_table t = start_table (ended (execution_at t t.turns)) (is_break_at t t.turns)

kill_table :
    (signal : Signal) (t : Task) (o : Option ℕ) → (killed_while o signal t).status ≡ cond (is_some o) t.status Stopped
kill_table signal t None = refl
kill_table signal t (Some n) = refl

pub killed_by_table :
    (signal : Signal) (t : Task) → (killed signal t).status ≡ after call.Kill (situation_at t t.turns) t.status
killed_by_table signal t = kill_table signal t t.out

step_table : (o : Option End) → (landing o None true).0 ≡ cond (is_some o) Stopped Paused
step_table (Some e) = refl
step_table None = refl

pub stepped_by_table : (t : Task) (count : ℕ)
    → (stepped t count).status ≡ after call.Step (situation_at t (t.turns + slice_turns t count)) t.status
stepped_by_table t count = step_table (ended (execution_at t (t.turns + slice_turns t count)))

-- ---- where a task lands whose slice returns

-- the standing of a task that is stopped so
abbrev pub stopped_by : ExitRecord → Standing
stopped_by e = (Stopped, Some e)

own_landing : (o : Option End) (signal : Option Signal) (pauses : Bool) (e : End) → o ≡ Some e
    → landing o signal pauses ≡ stopped_by (exit_of e)
own_landing None signal pauses e is = absurd (none_is_not e is)
own_landing (Some x) signal pauses e is = ap (λ (y : End). stopped_by (exit_of y)) (some_is x e is)

signal_landing : (o : Option End) (signal : Option Signal) (pauses : Bool) (s : Signal) → o ≡ None → signal ≡ Some s
    → landing o signal pauses ≡ stopped_by (exit.Kill s)
signal_landing (Some e) signal pauses s none is = absurd (none_is_not e (sym none))
signal_landing None None pauses s none is = absurd (none_is_not s is)
signal_landing None (Some x) pauses s none is = ap (λ (y : Signal). stopped_by (exit.Kill y)) (some_is x s is)

pause_landing : (o : Option End) (signal : Option Signal) (pauses : Bool) → o ≡ None → signal ≡ None
    → (landing o signal pauses).0 ≡ cond pauses Paused Running
pause_landing (Some e) signal pauses none quiet = absurd (none_is_not e (sym none))
pause_landing None (Some x) pauses none quiet = absurd (none_is_not x (sym quiet))
pause_landing None None true none quiet = refl
pause_landing None None false none quiet = refl

module _ (t t' : Task) (back : HasReturned t t') where
  abbrev k : ℕ
  k = slice_turns t back.budget

  abbrev pauses : Bool
  pauses = is_pausing t.status || is_break_at t (t.turns + k)

  -- where it lands
  abbrev at : Standing
  at = landing (ended (execution_at t (t.turns + k))) t.signal pauses

  same_end : ended (execution_at t' t'.turns) ≡ ended (execution_at t (t.turns + k))
  same_end = ap (λ (u : Task). ended (execution_at u u.turns)) back.advances

  same_break : is_break_at t' t'.turns ≡ is_break_at t (t.turns + k)
  same_break = ap (λ (u : Task). is_break_at u u.turns) back.advances

  lands : (x : Standing) → at ≡ x → (t'.status ≡ x.0) × (t'.end ≡ x.1)
  lands x is = (
    ap (λ (u : Task). u.status) back.advances ∙ ap (λ (y : Standing). y.0) is,
    ap (λ (u : Task). u.end) back.advances ∙ ap (λ (y : Standing). y.1) is,
  )

  -- its own end stops it
  pub own_end_stops :
      (e : End) → ended (execution_at t' t'.turns) ≡ Some e → (t'.status ≡ Stopped) × (t'.end ≡ Some (exit_of e))
  own_end_stops e is =
      lands (stopped_by (exit_of e))
      (own_landing (ended (execution_at t (t.turns + k))) t.signal pauses e (sym same_end ∙ is))

  -- and else a signal
  pub signal_stops : (s : Signal) → t.signal ≡ Some s → ended (execution_at t' t'.turns) ≡ None
      → (t'.status ≡ Stopped) × (t'.end ≡ Some (exit.Kill s))
  signal_stops s is none =
      lands (stopped_by (exit.Kill s))
      (signal_landing (ended (execution_at t (t.turns + k))) t.signal pauses s (sym same_end ∙ none) is)

  goes_on : (b : Bool) → ended (execution_at t' t'.turns) ≡ None → t.signal ≡ None → pauses ≡ b
      → t'.status ≡ cond b Paused Running
  goes_on b none quiet is =
      ap (λ (u : Task). u.status) back.advances
      ∙ (pause_landing (ended (execution_at t (t.turns + k))) t.signal pauses (sym same_end ∙ none) quiet
      ∙ ap (λ (x : Bool). cond x Paused Running) is)

  -- and else a pause that came meanwhile pauses it
  pub pausing_pauses :
      ended (execution_at t' t'.turns) ≡ None → t.signal ≡ None → t.status ≡ Pausing → t'.status ≡ Paused
  pausing_pauses none quiet is =
      goes_on true none quiet (ap (λ (x : Status). is_pausing x || is_break_at t (t.turns + k)) is)

  -- or a breakpoint
  pub breaks_pause :
      ended (execution_at t' t'.turns) ≡ None → t.signal ≡ None → is_break_at t' t'.turns ≡ true → t'.status ≡ Paused
  breaks_pause none quiet is =
      goes_on true none quiet
      (ap (λ (x : Bool). is_pausing t.status || x) (sym same_break ∙ is) ∙ or_right (is_pausing t.status) true refl)

  -- and else it is running
  pub others_run :
      ended (execution_at t' t'.turns) ≡ None → t.signal ≡ None → t.status ≡ Running → is_break_at t' t'.turns ≡ false
      → t'.status ≡ Running
  others_run none quiet is off =
      goes_on false none quiet
      (ap (λ (x : Status). is_pausing x || is_break_at t (t.turns + k)) is ∙ (sym same_break ∙ off))

-- ---- the first signal

first_kept_by : (t : Task) (first second : Signal) (budget : ℕ) (o : Option ℕ) (p : Option Signal) → o ≡ Some budget
    → p ≡ Some first → t.signal ≡ p → killed_while o second t ≡ record t { signal = Some first }
first_kept_by t first second budget None p out is same = absurd (none_is_not budget out)
first_kept_by t first second budget (Some n) p out is same =
    ap (λ (x : Signal). record t { signal = Some x }) (ap (λ (y : Option Signal). unwrap_or y second) (same ∙ is))

pub first_kept :
    (t : Task) (first second : Signal) (budget : ℕ) → t.out ≡ Some budget → t.signal ≡ Some first → killed second t ≡ t
first_kept t first second budget out is =
    first_kept_by t first second budget t.out t.signal out is refl
    ∙ ap (λ (x : Option Signal). record t { signal = x }) (sym is)
