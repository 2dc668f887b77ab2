-- The tasks that wait: each once, each of them there, and so no more than there are tasks.
use Rattle.std.proofs.Common.{◌≡◌, ◌≢◌, ℕ, suc, ◌<◌, ◌≤◌, List, [], ◌∷◌, ◌++◌, filter, length, Bool, true, false, true≢false, cond, not, bytes_eq, nat_eq, Option, Some, None, option_and_then, inl, inr, refl, sym, ap, ap₂, ◌∙◌, subst, arith}
use Rattle.std.proofs.lemmas.Bool.{or_parts}
use Rattle.std.proofs.lemmas.Bool.Decides.{nat_tests}
use Rattle.task_board.specs.declared.ticket.Ticket.{Ticket}
use Rattle.task_board.specs.Limits.{max_tasks}
use Rattle.task_board.specs.BoardState.{Task, Entries, BoardState, task_in, entry_of, put_task, change_task, with_task, with_new_task}
use Rattle.task_board.specs.Sound.{Each, AreDistinct, IsBoard}
use Rattle.task_board.specs.Tickets.{ticket_if_running, ticket_in}
use Rattle.task_board.specs.Waiting.{is_ticket, is_waiting, has_incarnation, is_present, enter, running_ticket, without, AreWaiting}
use Rattle.task_board.proofs.EntryLemmas.{none_is_not, some_is, by_slot, by_id, cond_true, cond_false, cond_is_true, cond_is_false, same_slot, other_slot, same_id, other_id, in_slot, changed_from_old, IsChangedFrom, put_in}
use Rattle.task_board.proofs.SoundLemmas.{each_imp, each_append, distinct_append}

-- ---- tickets

same_parts : (a b : Ticket) → a.slot ≡ b.slot → a.incarnation ≡ b.incarnation → a ≡ b
same_parts a b slots numbers = ap₂ (λ (s n : ℕ). record { slot = s; incarnation = n }) slots numbers

is_own : (a : Ticket) → is_ticket a a ≡ true
is_own a =
    let one : nat_eq a.slot a.slot ≡ true = same_slot a.slot a.slot refl in
    let two : nat_eq a.incarnation a.incarnation ≡ true = same_slot a.incarnation a.incarnation refl in
    rw (one, two) refl

away : (t : Ticket) (ws : List Ticket) → is_waiting t ws ≡ false → Each (λ (w : Ticket). w ≢ t) ws
away t [] h = tt
away t (w ∷ ws) h =
    let both = or_parts (is_ticket w t) (is_waiting t ws) h in
    ((λ e. true≢false (sym (ap (λ (x : Ticket). is_ticket x t) e ∙ is_own t) ∙ both.0)), away t ws both.1)

-- ---- some of them

some_each : (P : Ticket → Type 0) (test : Ticket → Bool) (ws : List Ticket) → Each P ws → Each P (filter test ws)
some_each P test [] each = tt
some_each P test (w ∷ ws) each =
    elim (test w) as (λ (b : Bool). Each P (cond b (w ∷ filter test ws) (filter test ws)))
    [ true ↦ (each.0, some_each P test ws each.1) | false ↦ some_each P test ws each.1 ]

some_distinct : (test : Ticket → Bool) (ws : List Ticket) → AreDistinct ws → AreDistinct (filter test ws)
some_distinct test [] d = tt
some_distinct test (w ∷ ws) d =
    elim (test w) as (λ (b : Bool). AreDistinct (cond b (w ∷ filter test ws) (filter test ws))) [
      | true ↦ (some_each (λ (x : Ticket). w ≢ x) test ws d.0, some_distinct test ws d.1)
      | false ↦ some_distinct test ws d.1
    ]

passing_by : (test : Ticket → Bool) (w : Ticket) (ws : List Ticket) (b : Bool) → test w ≡ b
    → Each (λ (x : Ticket). test x ≡ true) (filter test ws)
    → Each (λ (x : Ticket). test x ≡ true) (cond b (w ∷ filter test ws) (filter test ws))
passing_by test w ws true is each = (is, each)
passing_by test w ws false is each = each

passing : (test : Ticket → Bool) (ws : List Ticket) → Each (λ (x : Ticket). test x ≡ true) (filter test ws)
passing test [] = tt
passing test (w ∷ ws) = passing_by test w ws (test w) refl (passing test ws)

all_pass_by : (test : Ticket → Bool) (w : Ticket) (ws : List Ticket) → test w ≡ true → filter test ws ≡ ws
    → cond (test w) (w ∷ filter test ws) (filter test ws) ≡ w ∷ ws
all_pass_by test w ws is same =
    cond_is_true (test w) (w ∷ filter test ws) (filter test ws) is ∙ ap (λ (xs : List Ticket). w ∷ xs) same

all_pass : (test : Ticket → Bool) (ws : List Ticket) → Each (λ (x : Ticket). test x ≡ true) ws → filter test ws ≡ ws
all_pass test [] each = refl
all_pass test (w ∷ ws) each = all_pass_by test w ws each.0 (all_pass test ws each.1)

-- ---- no more than there are tasks

incarnation_is : (n m : ℕ) → nat_eq n m ≡ true → n ≡ m
incarnation_is n m h = grind (arith, nat_tests, h)

-- two tickets of one slot whose task is there are the same
one_of_slot : (ts : Entries) (a b : Ticket) → a.slot ≡ b.slot → is_present ts a ≡ true → is_present ts b ≡ true → a ≡ b
one_of_slot ts a b slots pa pb =
    by (task_in b.slot ts) (subst (λ (k : ℕ). has_incarnation a.incarnation (task_in k ts) ≡ true) slots pa) pb
  where
    by : (o : Option Task) → has_incarnation a.incarnation o ≡ true → has_incarnation b.incarnation o ≡ true → a ≡ b
    by None x y = cc
    by (Some t) x y =
        same_parts a b slots
        (sym (incarnation_is t.incarnation a.incarnation x) ∙ incarnation_is t.incarnation b.incarnation y)

abbrev beside : ℕ → Ticket → Bool
beside k w = not (nat_eq w.slot k)

-- all but the one of a slot
others_by :
    (ts : Entries) (k : ℕ) (w : Ticket) (ws : List Ticket) (b : Bool) → nat_eq w.slot k ≡ b → AreDistinct (w ∷ ws)
    → Each (λ (x : Ticket). is_present ts x ≡ true) (w ∷ ws) → length ws ≤ suc (length (filter (beside k) ws))
    → suc (length ws) ≤ suc (length (cond (not b) (w ∷ filter (beside k) ws) (filter (beside k) ws)))
others_by ts k w ws false is d all less = omega (arith, less)
others_by ts k w ws true is d all less =
    let same : filter (beside k) ws ≡ ws = all_pass (beside k) ws (each_away ws d.0 all.1) in
    subst (λ (xs : List Ticket). suc (length ws) ≤ suc (length xs)) (sym same) (omega arith)
  where
    at : w.slot ≡ k
    at = incarnation_is w.slot k is

    each_away : (xs : List Ticket) → Each (λ (x : Ticket). w ≢ x) xs → Each (λ (x : Ticket). is_present ts x ≡ true) xs
        → Each (λ (x : Ticket). beside k x ≡ true) xs
    each_away [] x y = tt
    each_away (v ∷ vs) x y = (
      by_slot v.slot k (λ on here. absurd (x.0 (one_of_slot ts w v (at ∙ sym here) all.0 y.0)))
          (λ off other. ap not off),
      each_away vs x.1 y.1,
    )

others : (ts : Entries) (k : ℕ) (ws : List Ticket) → AreDistinct ws → Each (λ (x : Ticket). is_present ts x ≡ true) ws
    → length ws ≤ suc (length (filter (beside k) ws))
others ts k [] d all = omega arith
others ts k (w ∷ ws) d all = others_by ts k w ws (nat_eq w.slot k) refl d all (others ts k ws d.1 all.1)

not_false : (b : Bool) → not b ≡ true → b ≡ false
not_false true h = cc
not_false false h = refl

-- those of other slots are there among the other tasks
rest_present : (e : ℕ × Task) (ts : Entries) (ws : List Ticket) → Each (λ (x : Ticket). is_present (e ∷ ts) x ≡ true) ws
    → Each (λ (x : Ticket). beside e.0 x ≡ true) ws → Each (λ (x : Ticket). is_present ts x ≡ true) ws
rest_present e ts [] all off = tt
rest_present e ts (w ∷ ws) all off =
    let differs : nat_eq e.0 w.slot ≡ false =
    other_slot e.0 w.slot
    (λ same. true≢false (sym (same_slot w.slot e.0 (sym same)) ∙ not_false (nat_eq w.slot e.0) off.0)) in (
      ap (has_incarnation w.incarnation)
          (sym (cond_is_false (nat_eq e.0 w.slot) (Some e.1) (task_in w.slot ts) differs)) ∙ all.0,
      rest_present e ts ws all.1 off.1,
    )

no_more : (ts : Entries) (ws : List Ticket) → AreDistinct ws → Each (λ (x : Ticket). is_present ts x ≡ true) ws
    → length ws ≤ length ts
no_more [] [] d all = omega arith
no_more [] (w ∷ ws) d all = let h = all.0 in cc
no_more (e ∷ ts) ws d all =
    let kept = filter (beside e.0) ws in
    let rest =
    no_more ts kept (some_distinct (beside e.0) ws d)
    (rest_present e ts kept (some_each (λ (x : Ticket). is_present (e ∷ ts) x ≡ true) (beside e.0) ws all)
    (passing (beside e.0) ws)) in
    let less = others (e ∷ ts) e.0 ws d all in
    omega (arith, rest, less)

-- there is room for a task that is there and does not wait
pub room_to_enter :
    (s : BoardState) (ws : List Ticket) (t : Ticket) → IsBoard s → AreWaiting s.tasks ws → is_present s.tasks t ≡ true
    → is_waiting t ws ≡ false → length ws < max_tasks
room_to_enter s ws t b all there free =
    let far = away t ws free in
    let one =
    no_more s.tasks (t ∷ ws)
    (each_imp (λ (w : Ticket). w ≢ t) (λ (w : Ticket). t ≢ w) ws (λ w f e. f (sym e)) far, all.once)
    (there, all.present) in
    let few = b.few_tasks in
    omega (arith, one, few)

-- ---- they stay so

enter_by : (ts : Entries) (ws : List Ticket) (t : Ticket) (b : Bool) → is_waiting t ws ≡ b → AreWaiting ts ws
    → is_present ts t ≡ true → AreWaiting ts (cond b ws (ws ++ t ∷ []))
enter_by ts ws t true is all there = all
enter_by ts ws t false is all there = record {
  once = distinct_append ws t all.once (away t ws is);
  present = each_append (λ (w : Ticket). is_present ts w ≡ true) ws t all.present there;
}

pub entered : (ts : Entries) (ws : List Ticket) (t : Ticket) → AreWaiting ts ws → is_present ts t ≡ true
    → AreWaiting ts (enter t ws)
entered ts ws t all there = enter_by ts ws t (is_waiting t ws) refl all there

pub filtered : (ts : Entries) (ws : List Ticket) → AreDistinct ws → AreWaiting ts (filter (is_present ts) ws)
filtered ts ws d = record { once = some_distinct (is_present ts) ws d; present = passing (is_present ts) ws }

-- the oldest leaves
pub left : (ts : Entries) (t : Ticket) (ws : List Ticket) → AreWaiting ts (t ∷ ws) → AreWaiting ts ws
left ts t ws all = record { once = all.once.1; present = all.present.1 }

-- a ticket leaves
pub left_without : (ts : Entries) (t : Ticket) (ws : List Ticket) → AreWaiting ts ws → AreWaiting ts (without t ws)
left_without ts t ws all =
    let test : Ticket → Bool = λ w. not (is_ticket w t) in
    record {
      once = some_distinct test ws all.once;
      present = some_each (λ (w : Ticket). is_present ts w ≡ true) test ws all.present;
    }

all_stay : (ts us : Entries) (ws : List Ticket) → ((w : Ticket) → is_present ts w ≡ true → is_present us w ≡ true)
    → AreWaiting ts ws → AreWaiting us ws
all_stay ts us ws keeps all = record {
  once = all.once;
  present =
      each_imp (λ (w : Ticket). is_present ts w ≡ true) (λ (w : Ticket). is_present us w ≡ true) ws keeps all.present;
}

change_present : (new old : Task) (ts us : Entries) (w : Ticket) → new.incarnation ≡ old.incarnation
    → IsChangedFrom old new w.slot ts us → is_present ts w ≡ true → is_present us w ≡ true
change_present new old ts us w same (inl stays) there = ap (has_incarnation w.incarnation) stays ∙ there
change_present new old ts us w same (inr one) there =
    ap (has_incarnation w.incarnation) one.1
    ∙ (ap (λ (n : ℕ). nat_eq n w.incarnation) same ∙ (ap (has_incarnation w.incarnation) (sym one.0) ∙ there))

-- the task of an id is changed to one of its incarnation
pub stay_changed :
    (s : BoardState) (k : ℕ) (old new : Task) (ws : List Ticket) → entry_of new.id s.tasks ≡ Some (k, old)
    → new.incarnation ≡ old.incarnation → AreWaiting s.tasks ws → AreWaiting (with_task s new).tasks ws
stay_changed s k old new ws found same all =
    all_stay s.tasks (change_task new s.tasks) ws
    (λ w there. change_present new old s.tasks (change_task new s.tasks) w same
    (changed_from_old old new k w.slot s.tasks found) there) all

-- a task more
pub stay_more :
    (s : BoardState) (k : ℕ) (t : Task) (ws : List Ticket) → task_in k s.tasks ≡ None → AreWaiting s.tasks ws
    → AreWaiting (with_new_task s k t).tasks ws
stay_more s k t ws free all =
    all_stay s.tasks (put_task k t s.tasks) ws
    (λ w there.
    by_slot w.slot k
    (λ y here. let none : has_incarnation w.incarnation (task_in w.slot s.tasks) ≡ false =
    ap (has_incarnation w.incarnation) (ap (λ (j : ℕ). task_in j s.tasks) here ∙ free)
    in absurd (true≢false (sym there ∙ none)))
    (λ n other. ap (has_incarnation w.incarnation) (put_in k w.slot t s.tasks other) ∙ there))
    all

-- ---- who enters

-- a running task's ticket is of a task that is there
pub running_there : (k : ℕ) (ts : Entries) (t : Ticket) → ticket_in k ts ≡ Some t → is_present ts t ≡ true
running_there k ts t h = by (task_in k ts) refl h
  where
    by_status : (u : Task) (b : Bool) → task_in k ts ≡ Some u
        → cond b (Some (record { slot = k; incarnation = u.incarnation })) None ≡ Some t → is_present ts t ≡ true
    by_status u true there is =
        let same : record { slot = k; incarnation = u.incarnation } ≡ t =
        some_is (record { slot = k; incarnation = u.incarnation }) t is in
        let own : is_present ts (record { slot = k; incarnation = u.incarnation }) ≡ true =
        ap (has_incarnation u.incarnation) there ∙ same_slot u.incarnation u.incarnation refl in
        subst (λ (x : Ticket). is_present ts x ≡ true) same own
    by_status u false there is = absurd (none_is_not t is)

    by :
        (o : Option Task) → task_in k ts ≡ o → option_and_then (ticket_if_running k) o ≡ Some t → is_present ts t ≡ true
    by None there is = absurd (none_is_not t is)
    by (Some u) there is = by_status u _ there is

entry_there : (new old : Task) (k : ℕ) (id : List ℕ) (ts : Entries) → id ≡ new.id → entry_of id ts ≡ Some (k, old)
    → entry_of id (change_task new ts) ≡ Some (k, new)
entry_there new old k id [] same h = absurd (none_is_not (k, old) h)
entry_there new old k id (e ∷ ts) same h =
    by_id e.1.id new.id
    (λ y here.
    let own = same_id e.1.id id (here ∙ sym same) in
    let at : e.0 ≡ k =
    ap (λ (x : ℕ × Task). x.0)
    (some_is e (k, old) (cond_true (bytes_eq e.1.id id) (Some e) (entry_of id ts) (Some (k, old)) own h)) in
    ap (entry_of id) (cond_is_true (bytes_eq e.1.id new.id) ((e.0, new) ∷ ts) (e ∷ change_task new ts) y)
    ∙ (cond_is_true (bytes_eq new.id id) (Some (e.0, new)) (entry_of id ts) (same_id new.id id (sym same))
    ∙ ap (λ (j : ℕ). Some (j, new)) at))
    (λ n other.
    let off = other_id e.1.id id (λ x. other (x ∙ same)) in
    ap (entry_of id) (cond_is_false (bytes_eq e.1.id new.id) ((e.0, new) ∷ ts) (e ∷ change_task new ts) n)
    ∙ (cond_is_false (bytes_eq e.1.id id) (Some e) (entry_of id (change_task new ts)) off
    ∙ entry_there new old k id ts same
    (cond_false (bytes_eq e.1.id id) (Some e) (entry_of id ts) (Some (k, old)) off h)))

-- the ticket of a changed task by its id is that by its slot
pub same_ticket : (s : BoardState) (k : ℕ) (id : List ℕ) (old new : Task) → IsBoard (with_task s new) → id ≡ new.id
    → entry_of id s.tasks ≡ Some (k, old)
    → running_ticket id (change_task new s.tasks) ≡ ticket_in k (change_task new s.tasks)
same_ticket s k id old new b same found =
    let us = change_task new s.tasks in
    let at = entry_there new old k id s.tasks same found in
    let there : task_in k us ≡ Some new = in_slot id (k, new) us b.slots at in
    ap (option_and_then (λ (e : ℕ × Task). ticket_if_running e.0 e.1)) at
    ∙ sym (ap (option_and_then (ticket_if_running k)) there)
