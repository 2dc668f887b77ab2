-- Sound boards stay sound.
use Rattle.std.proofs.Common.{◌≡◌, ◌≢◌, ℕ, suc, ◌+◌, ◌<◌, ◌≤◌, List, [], ◌∷◌, ◌++◌, map, length, Bool, true, false, cond, ◌||◌, bytes_eq, nat_eq, nat_lt, Option, Some, None, is_some, option_map, refl, sym, ap, ◌∙◌, subst, arith}
use Rattle.std.proofs.lemmas.Bool.Decides.{nat_tests}
use Rattle.wasm_ast.specs.declared.module.Module.{Module}
use Rattle.step_machine.specs.declared.ends.End.{End}
use Rattle.step_machine.specs.declared.ends.End.TheVariants as own
use Rattle.step_machine.specs.Configuration.{State as ExecutionState}
use Rattle.step_machine.specs.Instantiation.{ended}
use Rattle.step_machine.specs.Limits.{max_breakpoints}
use Rattle.task_lifecycle.specs.declared.lifecycle.TaskCall.TheVariants as call
use Rattle.task_lifecycle.specs.declared.status.Status.{Status}
use Rattle.task_lifecycle.specs.declared.status.Status.TheVariants.{Created, Running, Pausing, Paused, Stopped}
use Rattle.task_lifecycle.specs.declared.status.Signal.{Signal}
use Rattle.task_lifecycle.specs.declared.status.ExitRecord.{ExitRecord}
use Rattle.task_lifecycle.specs.declared.status.ExitRecord.TheVariants as exit
use Rattle.task_board.specs.Limits.{max_tasks, max_creates}
use Rattle.wasm_ast.specs.Identifiers.{is_id}
use Rattle.content_leases.specs.Digests.{digest_of}
use Rattle.content_leases.specs.StoreState.{Content, content_in}
use Rattle.task_lifecycle.specs.Lifecycle.{allowed, takes_turns, is_pausing, is_stopped, is_going}
use Rattle.task_board.specs.BoardState.{Task, Entries, BoardState, created_task, task_in, entry_of, task_of, put_task, with_task, without_task, with_new_task}
use Rattle.task_board.specs.Tasks.{execution_at, is_break_at, Standing, idle_task, exit_of, IsTrueOf, landing, idle_after, started, paused, resumed, killed_while, killed, advanced, slice_turns, stepped}
use Rattle.task_board.specs.Refusals.{Openable}
use Rattle.task_board.specs.Sound.{Each, AreDistinct, AreRising, IsSound, IsContent, slots_of, ids_of, incarnations_of, IsBoard}
use Rattle.task_board.proofs.EntryLemmas.{none_is_not, some_is, cond_true, cond_false, by_slot, by_id, change_length, change_slots, change_ids, change_incarnations, change_each, put_length, put_each, remove_entries, remove_distinct, remove_rising, remove_length}

-- ---- lists

pub each_imp : {X : Type 0} (P Q : X → Type 0) (xs : List X) → ((x : X) → P x → Q x) → Each P xs → Each Q xs
each_imp {X} P Q [] f each = tt
each_imp {X} P Q (x ∷ xs) f each = (f x each.0, each_imp P Q xs f each.1)

pub each_append : {X : Type 0} (P : X → Type 0) (xs : List X) (y : X) → Each P xs → P y → Each P (xs ++ y ∷ [])
each_append {X} P [] y each p = (p, tt)
each_append {X} P (x ∷ xs) y each p = (each.0, each_append P xs y each.1 p)

pub distinct_append :
    {X : Type 0} (xs : List X) (y : X) → AreDistinct xs → Each (λ (x : X). x ≢ y) xs → AreDistinct (xs ++ y ∷ [])
distinct_append {X} [] y d away = (tt, tt)
distinct_append {X} (x ∷ xs) y d away =
    (each_append (λ (z : X). x ≢ z) xs y d.0 away.0, distinct_append xs y d.1 away.1)

pub map_append : {X Y : Type 0} (f : X → Y) (xs : List X) (y : X) → map f (xs ++ y ∷ []) ≡ map f xs ++ f y ∷ []
map_append {X} {Y} f [] y = refl
map_append {X} {Y} f (x ∷ xs) y = ap (λ (ys : List Y). f x ∷ ys) (map_append f xs y)

pub length_append : {X : Type 0} (xs : List X) (y : X) → length (xs ++ y ∷ []) ≡ suc (length xs)
length_append {X} [] y = refl
length_append {X} (x ∷ xs) y = ap (λ (n : ℕ). suc n) (length_append xs y)

-- ---- one task is changed

-- the task of an id is changed to a sound one of its own id and incarnation
pub change_sound : (s : BoardState) (k : ℕ) (old t : Task) → IsBoard s → entry_of t.id s.tasks ≡ Some (k, old)
    → t.incarnation ≡ old.incarnation → IsSound s.creates t → IsBoard (with_task s t)
change_sound s k old t b found same sound = record {
  tasks = change_each (IsSound s.creates) t s.tasks sound b.tasks;
  slots = subst AreRising (sym (change_slots t s.tasks)) b.slots;
  ids = subst (λ (xs : List (List ℕ)). AreDistinct xs) (sym (change_ids t s.tasks)) b.ids;
  incarnations =
      subst (λ (xs : List ℕ). AreDistinct xs) (sym (change_incarnations t old k s.tasks found same)) b.incarnations;
  contents = b.contents;
  digests = b.digests;
  leases = b.leases;
  names = b.names;
  few_tasks = subst (λ (n : ℕ). n ≤ max_tasks) (sym (change_length t s.tasks)) b.few_tasks;
  few_contents = b.few_contents;
  few_leases = b.few_leases;
  few_creates = b.few_creates;
}

-- ---- one task less

pub remove_sound : (s : BoardState) (id : List ℕ) (k : ℕ) (old : Task) → IsBoard s → entry_of id s.tasks ≡ Some (k, old)
    → IsBoard (without_task s id)
remove_sound s id k old b found = record {
  tasks = remove_entries (λ (e : ℕ × Task). IsSound s.creates e.1) id s.tasks b.tasks;
  slots = remove_rising id s.tasks b.slots;
  ids = remove_distinct (λ (e : ℕ × Task). e.1.id) id s.tasks b.ids;
  incarnations = remove_distinct (λ (e : ℕ × Task). e.1.incarnation) id s.tasks b.incarnations;
  contents = b.contents;
  digests = b.digests;
  leases = b.leases;
  names = b.names;
  few_tasks = let less = remove_length id (k, old) s.tasks found in let few = b.few_tasks in omega (arith, less, few);
  few_contents = b.few_contents;
  few_leases = b.few_leases;
  few_creates = b.few_creates;
}

-- ---- one task more

put_slot_each : (j k : ℕ) (t : Task) (es : Entries) → Each (λ (m : ℕ). j < m) (slots_of es) → j < k
    → Each (λ (m : ℕ). j < m) (slots_of (put_task k t es))
put_slot_each j k t [] each below = (below, tt)
put_slot_each j k t (e ∷ es) each below =
    elim (nat_lt k e.0) as
    (λ (b : Bool). Each (λ (m : ℕ). j < m) (slots_of (cond b ((k, t) ∷ e ∷ es) (e ∷ put_task k t es))))
    [ true ↦ (below, each) | false ↦ (each.0, put_slot_each j k t es each.1 below) ]

above_all : (k : ℕ) (e : ℕ × Task) (es : Entries) → k < e.0 → Each (λ (m : ℕ). e.0 < m) (slots_of es)
    → Each (λ (m : ℕ). k < m) (slots_of es)
above_all k e es below each =
    each_imp (λ (m : ℕ). e.0 < m) (λ (m : ℕ). k < m) (slots_of es) (λ m h. omega (arith, below, h)) each

-- before this entry, or after it
rising_by : (k : ℕ) (t : Task) (e : ℕ × Task) (es : Entries) → AreRising (slots_of (e ∷ es)) → nat_eq e.0 k ≡ false
    → AreRising (slots_of (put_task k t es))
    → (b : Bool) → nat_lt k e.0 ≡ b → AreRising (slots_of (cond b ((k, t) ∷ e ∷ es) (e ∷ put_task k t es)))
rising_by k t e es r off rest true is =
    let below : k < e.0 = grind (arith, nat_tests, is) in
    ((below, above_all k e es below r.0), r)
rising_by k t e es r off rest false is =
    let below : e.0 < k = grind (arith, nat_tests, is, off) in
    (put_slot_each e.0 k t es r.0 below, rest)

put_rising : (k : ℕ) (t : Task) (es : Entries) → AreRising (slots_of es) → task_in k es ≡ None
    → AreRising (slots_of (put_task k t es))
put_rising k t [] r free = (tt, tt)
put_rising k t (e ∷ es) r free =
    by_slot e.0 k
    (λ y same. absurd (none_is_not e.1 (sym (cond_true (nat_eq e.0 k) (Some e.1) (task_in k es) None y free))))
    (λ n other. rising_by k t e es r n
    (put_rising k t es r.1 (cond_false (nat_eq e.0 k) (Some e.1) (task_in k es) None n free)) (nat_lt k e.0) refl)

put_id_each : (x : List ℕ) (k : ℕ) (t : Task) (es : Entries) → x ≢ t.id → Each (λ (y : List ℕ). x ≢ y) (ids_of es)
    → Each (λ (y : List ℕ). x ≢ y) (ids_of (put_task k t es))
put_id_each x k t [] other each = (other, tt)
put_id_each x k t (e ∷ es) other each =
    elim (nat_lt k e.0) as
    (λ (b : Bool). Each (λ (y : List ℕ). x ≢ y) (ids_of (cond b ((k, t) ∷ e ∷ es) (e ∷ put_task k t es))))
    [ true ↦ (other, each) | false ↦ (each.0, put_id_each x k t es other each.1) ]

-- no task has the id
all_other : (id : List ℕ) (es : Entries) → task_of id es ≡ None → Each (λ (y : List ℕ). id ≢ y) (ids_of es)
all_other id [] none = tt
all_other id (e ∷ es) none =
    by_id e.1.id id
    (λ y same_y. absurd
    (none_is_not e.1
    (sym
    (subst
    (λ (c : Bool). option_map (λ (z : ℕ × Task). z.1) (cond c (Some e) (entry_of id es)) ≡ None) y
    none))))
    (λ n other_n. (
      (λ is. other_n (sym is)),
      all_other id es
          (subst
          (λ (c : Bool). option_map (λ (z : ℕ × Task). z.1) (cond c (Some e) (entry_of id es)) ≡ None) n
          none),
    ))

put_distinct : (k : ℕ) (t : Task) (es : Entries) → AreDistinct (ids_of es) → Each (λ (y : List ℕ). t.id ≢ y) (ids_of es)
    → AreDistinct (ids_of (put_task k t es))
put_distinct k t [] d away = (tt, tt)
put_distinct k t (e ∷ es) d away =
    elim (nat_lt k e.0) as (λ (b : Bool). AreDistinct (ids_of (cond b ((k, t) ∷ e ∷ es) (e ∷ put_task k t es)))) [
      | true ↦ (away, d)
      | false ↦ (put_id_each e.1.id k t es (λ is. away.0 (sym is)) d.0, put_distinct k t es d.1 away.1)
    ]

put_number_each : (n k : ℕ) (t : Task) (es : Entries) → n ≢ t.incarnation → Each (λ (m : ℕ). n ≢ m) (incarnations_of es)
    → Each (λ (m : ℕ). n ≢ m) (incarnations_of (put_task k t es))
put_number_each n k t [] other each = (other, tt)
put_number_each n k t (e ∷ es) other each =
    elim (nat_lt k e.0) as
    (λ (b : Bool). Each (λ (m : ℕ). n ≢ m) (incarnations_of (cond b ((k, t) ∷ e ∷ es) (e ∷ put_task k t es))))
    [ true ↦ (other, each) | false ↦ (each.0, put_number_each n k t es other each.1) ]

put_numbers : (k : ℕ) (t : Task) (es : Entries) → AreDistinct (incarnations_of es)
    → Each (λ (m : ℕ). t.incarnation ≢ m) (incarnations_of es) → AreDistinct (incarnations_of (put_task k t es))
put_numbers k t [] d away = (tt, tt)
put_numbers k t (e ∷ es) d away =
    elim (nat_lt k e.0) as
    (λ (b : Bool). AreDistinct (incarnations_of (cond b ((k, t) ∷ e ∷ es) (e ∷ put_task k t es)))) [
      | true ↦ (away, d)
      | false ↦
          (put_number_each e.1.incarnation k t es (λ is. away.0 (sym is)) d.0, put_numbers k t es d.1 away.1)
    ]

earlier_all : (creates : ℕ) (es : Entries) → Each (λ (e : ℕ × Task). IsSound creates e.1) es
    → Each (λ (m : ℕ). creates ≢ m) (incarnations_of es)
earlier_all creates [] each = tt
earlier_all creates (e ∷ es) each =
    (let below = each.0.earlier in (λ is. omega (arith, below, is)), earlier_all creates es each.1)

later_sound : (creates : ℕ) (t : Task) → IsSound creates t → IsSound (creates + 1) t
later_sound creates t h =
    let below = h.earlier in
    let earlier : t.incarnation < creates + 1 = omega (arith, below) in
    assumption

-- a sound task that is the newest enters a free slot of a board that takes it
pub put_sound : (s : BoardState) (k : ℕ) (t : Task) → IsBoard s → task_in k s.tasks ≡ None → task_of t.id s.tasks ≡ None
    → t.incarnation ≡ s.creates
    → IsSound (s.creates + 1) t → length s.tasks < max_tasks → s.creates < max_creates → IsBoard (with_new_task s k t)
put_sound s k t b free new number sound few low = record {
  tasks =
      put_each (IsSound (s.creates + 1)) k t s.tasks sound
      (each_imp (λ (e : ℕ × Task). IsSound s.creates e.1) (λ (e : ℕ × Task). IsSound (s.creates + 1) e.1) s.tasks
      (λ e h. later_sound s.creates e.1 h) b.tasks);
  slots = put_rising k t s.tasks b.slots free;
  ids = put_distinct k t s.tasks b.ids (all_other t.id s.tasks new);
  incarnations =
      put_numbers k t s.tasks b.incarnations
      (subst (λ (n : ℕ). Each (λ (m : ℕ). n ≢ m) (incarnations_of s.tasks)) (sym number)
      (earlier_all s.creates s.tasks b.tasks));
  contents = b.contents;
  digests = b.digests;
  leases = b.leases;
  names = b.names;
  few_tasks = let more = put_length k t s.tasks in omega (arith, more, few);
  few_contents = b.few_contents;
  few_leases = b.few_leases;
  few_creates = omega (arith, low);
}

-- a created task is sound
pub created_sound :
    (id : List ℕ) (creates : ℕ) (bytes : List ℕ) (m : Module) (p : _) → is_id id ≡ true → Openable bytes p m
    → p.module ≡ digest_of bytes → IsSound (creates + 1) (created_task id creates bytes m p)
created_sound id creates bytes m p named opens digest = record {
  named = named;
  earlier = omega arith;
  opens = opens;
  digest = digest;
  fresh = λ h. refl;
  out = λ h. cc;
  budget = λ n h. cc;
  pausing = λ h. cc;
  signal = λ h. cc;
  stopped = refl;
  goes = λ h. cc;
  end = λ r h. cc;
  few_breaks = omega arith;
  breaks = tt;
}

-- ---- contents

-- the content that a digest names has it
pub content_named : (digest bytes : List ℕ) (cs : List Content) → Each IsContent cs → content_in cs digest ≡ Some bytes
    → digest ≡ digest_of bytes
content_named digest bytes [] each h = absurd (none_is_not bytes h)
content_named digest bytes (c ∷ cs) each h =
    by_id c.digest digest
    (λ y same_y. sym same_y ∙ (each.0.digest ∙ ap digest_of
    (some_is c.bytes bytes
    (cond_true (bytes_eq c.digest digest) (Some c.bytes) (content_in cs digest) (Some bytes) y h))))
    (λ n other_n. content_named digest bytes cs each.1
    (cond_false (bytes_eq c.digest digest) (Some c.bytes) (content_in cs digest) (Some bytes) n h))

-- ---- what happens to a task leaves it sound

-- what a standing says of a task that is idle with it, after this number of turns and in this state of execution
pub record IsStanding (x : Standing) (turns : ℕ) (e : ExecutionState) : Type 0 where
  pub begun : x.0 ≡ Created → ⊥
  pub resting : x.0 ≡ Pausing → ⊥
  pub stopped : is_stopped x.0 ≡ is_some x.1
  pub goes : is_going x.0 ≡ true → ended e ≡ None
  pub end : (r : ExitRecord) → x.1 ≡ Some r → IsTrueOf r turns (ended e)

-- a task that is idle in a fitting way
pub idle_sound : (creates : ℕ) (t : Task) (x : Standing) → is_id t.id ≡ true → t.incarnation < creates
    → Openable t.bytes t.process t.module → t.process.module ≡ digest_of t.bytes
    → length t.breaks ≤ max_breakpoints → AreDistinct t.breaks
    → IsStanding x t.turns (execution_at t t.turns) → IsSound creates (idle_task t x)
idle_sound creates t x named earlier opens digest few distinct standing = record {
  named = named;
  earlier = earlier;
  opens = opens;
  digest = digest;
  fresh = λ h. absurd (standing.begun h);
  out = λ h. cc;
  budget = λ n h. cc;
  pausing = λ h. absurd (standing.resting h);
  signal = λ h. cc;
  stopped = standing.stopped;
  goes = standing.goes;
  end = standing.end;
  few_breaks = few;
  breaks = distinct;
}

-- a standing that is not going, since the task has ended so
stopped_standing : (r : ExitRecord) (turns : ℕ) (e : ExecutionState) → IsTrueOf r turns (ended e)
    → IsStanding (Stopped, Some r) turns e
stopped_standing r turns e so = record {
  begun = λ h. cc;
  resting = λ h. cc;
  stopped = refl;
  goes = λ h. cc;
  end = λ x h. subst (λ (y : ExitRecord). IsTrueOf y turns (ended e)) (some_is r x h) so;
}

-- the record of an own end is true where that has come
own_true : (x : End) (turns : ℕ) (o : Option End) → o ≡ Some x → IsTrueOf (exit_of x) turns o
own_true own.Returned turns o is = is
own_true (own.Exited n) turns o is = is
own_true (own.Trapped t) turns o is = is

-- a standing that goes on
going_standing : (status : Status) (turns : ℕ) (e : ExecutionState) → (status ≡ Created → ⊥) → (status ≡ Pausing → ⊥)
    → is_stopped status ≡ false → ended e ≡ None → IsStanding (status, None) turns e
going_standing status turns e begun resting on is =
    record { begun = begun; resting = resting; stopped = on; goes = λ h. is; end = λ r h. cc }

-- where a task lands is so
landing_stands :
    (o : Option End) (signal : Option Signal) (pauses : Bool) (turns : ℕ) (e : ExecutionState) → ended e ≡ o
    → IsStanding (landing o signal pauses) turns e
landing_stands (Some x) signal pauses turns e is = stopped_standing (exit_of x) turns e (own_true x turns (ended e) is)
landing_stands None (Some s) pauses turns e is = stopped_standing (exit.Kill s) turns e (λ some. is)
landing_stands None None true turns e is = going_standing Paused turns e (λ h. cc) (λ h. cc) refl is
landing_stands None None false turns e is = going_standing Running turns e (λ h. cc) (λ h. cc) refl is

-- a task that is idle again
pub after_sound : (creates : ℕ) (t : Task) (n : ℕ) (signal : Option Signal) (pauses : Bool) → IsSound creates t
    → IsSound creates (idle_after t n signal pauses)
after_sound creates t n signal pauses h =
    let e = execution_at t n in
    idle_sound creates (record t { turns = n }) (landing (ended e) signal pauses) h.named h.earlier h.opens h.digest
    h.few_breaks h.breaks (landing_stands (ended e) signal pauses n e refl)

pub started_sound : (creates : ℕ) (t : Task) → IsSound creates t → IsSound creates (started t)
started_sound creates t h = after_sound creates t t.turns None (is_break_at t t.turns) h

pub advanced_sound : (creates : ℕ) (t : Task) (k : ℕ) → IsSound creates t → IsSound creates (advanced t k)
advanced_sound creates t k h =
    after_sound creates t (t.turns + k) t.signal (is_pausing t.status || is_break_at t (t.turns + k)) h

pub stepped_sound : (creates : ℕ) (t : Task) (count : ℕ) → IsSound creates t → IsSound creates (stepped t count)
stepped_sound creates t count h = after_sound creates t (t.turns + slice_turns t count) None true h

-- what a pause makes of the status
pub record IsPausing (out : Option ℕ) (status : Status) : Type 0 where
  pub begun : status ≡ Created → ⊥
  pub turns : is_some out ≡ true → takes_turns status ≡ true
  pub pausing : status ≡ Pausing → is_some out ≡ true
  pub goes_on : is_stopped status ≡ false

pausing_of : (out : Option ℕ) → IsPausing out (cond (is_some out) Pausing Paused)
pausing_of None = record { begun = λ h. cc; turns = λ h. cc; pausing = λ h. cc; goes_on = refl }
pausing_of (Some n) = record { begun = λ h. cc; turns = λ h. refl; pausing = λ h. refl; goes_on = refl }

pub paused_sound : (creates : ℕ) (t : Task) → IsSound creates t → t.status ≡ Running → IsSound creates (paused t)
paused_sound creates t h is =
    let f = pausing_of t.out in
    record {
      named = h.named;
      earlier = h.earlier;
      opens = h.opens;
      digest = h.digest;
      fresh = λ x. absurd (f.begun x);
      out = f.turns;
      budget = h.budget;
      pausing = f.pausing;
      signal = h.signal;
      stopped = f.goes_on ∙ (sym (ap is_stopped is) ∙ h.stopped);
      goes = λ x. h.goes (ap is_going is);
      end = h.end;
      few_breaks = h.few_breaks;
      breaks = h.breaks;
    }

pub resumed_sound : (creates : ℕ) (t : Task) → IsSound creates t → t.status ≡ Paused → IsSound creates (resumed t)
resumed_sound creates t h is = record {
  named = h.named;
  earlier = h.earlier;
  opens = h.opens;
  digest = h.digest;
  fresh = λ x. cc;
  out = λ x. refl;
  budget = h.budget;
  pausing = λ x. cc;
  signal = h.signal;
  stopped = sym (ap is_stopped is) ∙ h.stopped;
  goes = λ x. h.goes (ap is_going is);
  end = h.end;
  few_breaks = h.few_breaks;
  breaks = h.breaks;
}

-- what a kill may stop has made no turn, or goes on
not_ended : (status : Status) (turns : ℕ) (o : Option End) → allowed call.Kill status ≡ true
    → (status ≡ Created → turns ≡ 0) → (is_going status ≡ true → o ≡ None) → 1 ≤ turns → o ≡ None
not_ended Created turns o can fresh goes some = let none = fresh refl in absurd (omega (arith, none, some))
not_ended Running turns o can fresh goes some = goes refl
not_ended Pausing turns o can fresh goes some = goes refl
not_ended Paused turns o can fresh goes some = goes refl
not_ended Stopped turns o can fresh goes some = cc

killed_sound_by : (creates : ℕ) (signal : Signal) (t : Task) (out : Option ℕ) → t.out ≡ out → IsSound creates t
    → allowed call.Kill t.status ≡ true → IsSound creates (killed_while out signal t)
killed_sound_by creates signal t None is h can =
    idle_sound creates t (Stopped, Some (exit.Kill signal)) h.named h.earlier h.opens h.digest
    h.few_breaks h.breaks (stopped_standing (exit.Kill signal) t.turns (execution_at t t.turns)
    (not_ended t.status t.turns (ended (execution_at t t.turns)) can h.fresh h.goes))
killed_sound_by creates signal t (Some n) is h can =
    let out : is_some (Some signal) ≡ true → is_some t.out ≡ true = λ x. ap (is_some {T = ℕ}) is in
    assumption

pub killed_sound : (creates : ℕ) (signal : Signal) (t : Task) → IsSound creates t → allowed call.Kill t.status ≡ true
    → IsSound creates (killed signal t)
killed_sound creates signal t h can = killed_sound_by creates signal t t.out refl h can
