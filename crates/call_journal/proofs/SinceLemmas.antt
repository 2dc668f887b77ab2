-- Two lists of tasks, with takes and returns alone between them.
use Rattle.std.proofs.Common.{◌≡◌, ℕ, suc, List, [], ◌∷◌, length, Bool, true, false, cond, bytes_eq, nat_eq, nat_lt, Option, Some, None, option_map, refl, sym, ap, ap₂, ◌∙◌, subst}
use Rattle.oci_config.specs.declared.process.ProcessConfig.{ProcessConfig}
use Rattle.task_board.specs.BoardState.{Task, Entries, used_by, task_in, entry_of, task_of, put_task, change_task, remove_task}
use Rattle.task_board.proofs.EntryLemmas.{none_is_not, some_is, by_slot, cond_true, cond_false, cond_is_true, cond_is_false, same_id}
use Rattle.call_journal.specs.Replay.{ComesTo, stays, HaveCome}
use Rattle.call_journal.proofs.ComingLemmas.{comes_again}

-- ---- what stays of a task

pub same_id_of : (t u : Task) → ComesTo t u → u.id ≡ t.id
same_id_of t _ stays = refl
same_id_of t _ _ = refl

same_process : (t u : Task) → ComesTo t u → u.process ≡ t.process
same_process t _ stays = refl
same_process t _ _ = refl

-- ---- two tests that are the same

both_ways : (P : Bool → Bool → Type 0) → P true true → P false false → (b c : Bool) → b ≡ c → P b c
both_ways P on off true true same = on
both_ways P on off true false same = cc
both_ways P on off false true same = cc
both_ways P on off false false same = off

same_test : (id : List ℕ) (t u : Task) → ComesTo t u → bytes_eq t.id id ≡ bytes_eq u.id id
same_test id t u come = ap (λ (x : List ℕ). bytes_eq x id) (sym (same_id_of t u come))

-- ---- what is the same in both

pub same_used : (es us : Entries) → HaveCome es us → used_by es ≡ used_by us
same_used [] [] h = refl
same_used [] (u ∷ us) h = absurd h
same_used (e ∷ es) [] h = absurd h
same_used (e ∷ es) (u ∷ us) h =
    ap₂ (λ (x : List ℕ) (xs : List (List ℕ)). x ∷ xs)
    (ap (λ (p : ProcessConfig). p.module) (sym (same_process e.1 u.1 h.1))) (same_used es us h.2)

pub same_length : (es us : Entries) → HaveCome es us → length es ≡ length us
same_length [] [] h = refl
same_length [] (u ∷ us) h = absurd h
same_length (e ∷ es) [] h = absurd h
same_length (e ∷ es) (u ∷ us) h = ap (λ (n : ℕ). suc n) (same_length es us h.2)

pub same_free : (k : ℕ) (es us : Entries) → HaveCome es us → task_in k us ≡ None → task_in k es ≡ None
same_free k [] [] h free = refl
same_free k [] (u ∷ us) h free = absurd h
same_free k (e ∷ es) [] h free = absurd h
same_free k (e ∷ es) (u ∷ us) h free =
    by_slot u.0 k
    (λ y same. absurd (none_is_not u.1 (sym (cond_true (nat_eq u.0 k) (Some u.1) (task_in k us) None y free))))
    (λ n other.
    cond_is_false (nat_eq e.0 k) (Some e.1) (task_in k es) (ap (λ (j : ℕ). nat_eq j k) h.0 ∙ n)
    ∙ same_free k es us h.2 (cond_false (nat_eq u.0 k) (Some u.1) (task_in k us) None n free))

pub still_free : (k : ℕ) (es us : Entries) → HaveCome es us → task_in k es ≡ None → task_in k us ≡ None
still_free k [] [] h free = refl
still_free k [] (u ∷ us) h free = absurd h
still_free k (e ∷ es) [] h free = absurd h
still_free k (e ∷ es) (u ∷ us) h free =
    by_slot e.0 k
    (λ y same. absurd (none_is_not e.1 (sym (cond_true (nat_eq e.0 k) (Some e.1) (task_in k es) None y free))))
    (λ n other.
    cond_is_false (nat_eq u.0 k) (Some u.1) (task_in k us) (ap (λ (j : ℕ). nat_eq j k) (sym h.0) ∙ n)
    ∙ still_free k es us h.2 (cond_false (nat_eq e.0 k) (Some e.1) (task_in k es) None n free))

-- ---- the tasks of an id

abbrev pub MayCome : Option Task → Option Task → Type 0
MayCome None None = Unit {0}
MayCome (Some t) (Some u) = ComesTo t u
MayCome o p = ⊥

pub looks : (id : List ℕ) (es us : Entries) → HaveCome es us → MayCome (task_of id es) (task_of id us)
looks id [] [] h = tt
looks id [] (u ∷ us) h = absurd h
looks id (e ∷ es) [] h = absurd h
looks id (e ∷ es) (u ∷ us) h =
    both_ways
    (λ b c. MayCome (option_map (λ (x : ℕ × Task). x.1) (cond b (Some e) (entry_of id es)))
    (option_map (λ (x : ℕ × Task). x.1) (cond c (Some u) (entry_of id us))))
    h.1 (looks id es us h.2) (bytes_eq e.1.id id) (bytes_eq u.1.id id) (same_test id e.1 u.1 h.1)

pub came_from : (o p : Option Task) (u : Task) → MayCome o p → p ≡ Some u → (t : Task) × (o ≡ Some t) × ComesTo t u
came_from None None u h is = absurd (none_is_not u is)
came_from None (Some v) u h is = absurd h
came_from (Some t) None u h is = absurd h
came_from (Some t) (Some v) u h is = (t, refl, subst (ComesTo t) (some_is v u is) h)

pub came_none : (o p : Option Task) → MayCome o p → p ≡ None → o ≡ None
came_none None None h is = refl
came_none None (Some v) h is = absurd h
came_none (Some t) None h is = absurd h
came_none (Some t) (Some v) h is = absurd (none_is_not v (sym is))

-- ---- the same is done to both

pub both_put : (k : ℕ) (t : Task) (es us : Entries) → HaveCome es us → HaveCome (put_task k t es) (put_task k t us)
both_put k t [] [] h = (refl, stays, tt)
both_put k t [] (u ∷ us) h = absurd h
both_put k t (e ∷ es) [] h = absurd h
both_put k t (e ∷ es) (u ∷ us) h =
    both_ways
    (λ b c. HaveCome (cond b ((k, t) ∷ e ∷ es) (e ∷ put_task k t es)) (cond c ((k, t) ∷ u ∷ us) (u ∷ put_task k t us)))
    (refl, stays, h) (h.0, h.1, both_put k t es us h.2) (nat_lt k e.0) (nat_lt k u.0) (ap (nat_lt k) h.0)

pub both_change : (t : Task) (es us : Entries) → HaveCome es us → HaveCome (change_task t es) (change_task t us)
both_change t [] [] h = tt
both_change t [] (u ∷ us) h = absurd h
both_change t (e ∷ es) [] h = absurd h
both_change t (e ∷ es) (u ∷ us) h =
    both_ways
    (λ b c. HaveCome (cond b ((e.0, t) ∷ es) (e ∷ change_task t es)) (cond c ((u.0, t) ∷ us) (u ∷ change_task t us)))
    (h.0, stays, h.2) (h.0, h.1, both_change t es us h.2) (bytes_eq e.1.id t.id) (bytes_eq u.1.id t.id)
    (same_test t.id e.1 u.1 h.1)

pub both_remove : (id : List ℕ) (es us : Entries) → HaveCome es us → HaveCome (remove_task id es) (remove_task id us)
both_remove id [] [] h = tt
both_remove id [] (u ∷ us) h = absurd h
both_remove id (e ∷ es) [] h = absurd h
both_remove id (e ∷ es) (u ∷ us) h =
    both_ways
    (λ b c. HaveCome (cond b es (e ∷ remove_task id es)) (cond c us (u ∷ remove_task id us)))
    h.2 (h.0, h.1, both_remove id es us h.2) (bytes_eq e.1.id id) (bytes_eq u.1.id id) (same_test id e.1 u.1 h.1)

-- ---- one task goes on

-- in the second list
pub later : (v y : Task) (es us : Entries) → HaveCome es us → task_of y.id us ≡ Some v → ComesTo v y
    → HaveCome es (change_task y us)
later v y [] [] h at come = tt
later v y [] (u ∷ us) h at come = absurd h
later v y (e ∷ es) [] h at come = absurd h
later v y (e ∷ es) (u ∷ us) h at come = by (λ is. later v y es us h.2 is come) (bytes_eq u.1.id y.id) at
  where
    by : (task_of y.id us ≡ Some v → HaveCome es (change_task y us)) → (b : Bool)
        → option_map (λ (x : ℕ × Task). x.1) (cond b (Some u) (entry_of y.id us)) ≡ Some v
        → HaveCome (e ∷ es) (cond b ((u.0, y) ∷ us) (u ∷ change_task y us))
    by rest true is =
        (h.0, comes_again e.1 u.1 y h.1 (subst (λ (x : Task). ComesTo x y) (sym (some_is u.1 v is)) come), h.2)
    by rest false is = (h.0, h.1, rest is)

-- in the first, to where it is in the second
pub reached : (u : Task) (es us : Entries) → HaveCome es us → task_of u.id us ≡ Some u → HaveCome (change_task u es) us
reached u [] [] h at = tt
reached u [] (v ∷ us) h at = absurd h
reached u (e ∷ es) [] h at = absurd h
reached u (e ∷ es) (v ∷ us) h at =
    both_ways
    (λ b c. option_map (λ (x : ℕ × Task). x.1) (cond c (Some v) (entry_of u.id us)) ≡ Some u
    → HaveCome (cond b ((e.0, u) ∷ es) (e ∷ change_task u es)) (v ∷ us))
    (λ is. (h.0, subst (ComesTo u) (sym (some_is v.1 u is)) stays, h.2))
    (λ is. (h.0, h.1, reached u es us h.2 is))
    (bytes_eq e.1.id u.id) (bytes_eq v.1.id u.id) (same_test u.id e.1 v.1 h.1) at

pub now_there : (t old : Task) (es : Entries) → task_of t.id es ≡ Some old → task_of t.id (change_task t es) ≡ Some t
now_there t old [] at = absurd (none_is_not old at)
now_there t old (e ∷ es) at = by (λ is. now_there t old es is) (bytes_eq e.1.id t.id) refl at
  where
    by : (task_of t.id es ≡ Some old → task_of t.id (change_task t es) ≡ Some t) → (b : Bool) → bytes_eq e.1.id t.id ≡ b
        → option_map (λ (x : ℕ × Task). x.1) (cond b (Some e) (entry_of t.id es)) ≡ Some old
        → task_of t.id (cond b ((e.0, t) ∷ es) (e ∷ change_task t es)) ≡ Some t
    by rest true test is =
        ap (option_map (λ (x : ℕ × Task). x.1))
        (cond_is_true (bytes_eq t.id t.id) (Some (e.0, t)) (entry_of t.id es) (same_id t.id t.id refl))
    by rest false test is =
        ap (option_map (λ (x : ℕ × Task). x.1))
        (cond_is_false (bytes_eq e.1.id t.id) (Some e) (entry_of t.id (change_task t es)) test) ∙ rest is
