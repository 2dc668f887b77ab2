-- The same tasks in other slots.
use Rattle.std.proofs.Common.{◌≡◌, ◌≢◌, ℕ, suc, List, [], ◌∷◌, length, Bool, true, false, cond, ◌||◌, bytes_eq, nat_lt, filter, Option, Some, None, option_map, refl, sym, ap, ap₂, ◌∙◌, subst}
use Rattle.std.proofs.lemmas.Bool.{or_left, or_right}
use Rattle.content_leases.specs.StoreState.{is_among}
use Rattle.task_board.specs.BoardState.{Task, Entries, used_by, entry_of, task_of, put_task, change_task, remove_task}
use Rattle.task_board.specs.Sound.{Each, AreDistinct, ids_of}
use Rattle.task_board.proofs.EntryLemmas.{none_is_not, some_is, by_id, cond_is_true, cond_is_false, same_id, other_id, remove_distinct, remove_length}
use Rattle.task_board.proofs.StepLemmas.{found}

-- for each id the same task
abbrev pub Same : Entries → Entries → Type 0
Same es us = (id : List ℕ) → task_of id es ≡ task_of id us

abbrev pub Distinct : Entries → Type 0
Distinct es = AreDistinct (ids_of es)

-- ---- the task with an id

here : (e : ℕ × Task) (id : List ℕ) (es : Entries) → bytes_eq e.1.id id ≡ true → task_of id (e ∷ es) ≡ Some e.1
here e id es y = ap (option_map (λ (x : ℕ × Task). x.1)) (cond_is_true (bytes_eq e.1.id id) (Some e) (entry_of id es) y)

skip : (e : ℕ × Task) (id : List ℕ) (es : Entries) → bytes_eq e.1.id id ≡ false → task_of id (e ∷ es) ≡ task_of id es
skip e id es n =
    ap (option_map (λ (x : ℕ × Task). x.1)) (cond_is_false (bytes_eq e.1.id id) (Some e) (entry_of id es) n)

own_here : (e : ℕ × Task) (es : Entries) → task_of e.1.id (e ∷ es) ≡ Some e.1
own_here e es = here e e.1.id es (same_id e.1.id e.1.id refl)

after : (b : Bool) (e : ℕ × Task) (o p : Option (ℕ × Task))
    → option_map (λ (x : ℕ × Task). x.1) o ≡ option_map (λ (x : ℕ × Task). x.1) p
    → option_map (λ (x : ℕ × Task). x.1) (cond b (Some e) o) ≡ option_map (λ (x : ℕ × Task). x.1) (cond b (Some e) p)
after true e o p h = refl
after false e o p h = h

nowhere : (id : List ℕ) (es : Entries) → Each (λ y. id ≢ y) (ids_of es) → task_of id es ≡ None
nowhere id [] each = refl
nowhere id (e ∷ es) each = skip e id es (other_id e.1.id id (λ is. each.0 (sym is))) ∙ nowhere id es each.1

-- the first entry's id is not among the others
first_away : (e : ℕ × Task) (id : List ℕ) (es : Entries) → Distinct (e ∷ es) → e.1.id ≡ id → task_of id es ≡ None
first_away e id es d is = nowhere id es (subst (λ (x : List ℕ). Each (λ y. x ≢ y) (ids_of es)) is d.0)

-- ---- one is changed

pub changed_own : (t : Task) (es : Entries)
    → task_of t.id (change_task t es) ≡ option_map (λ (x : Task). t) (task_of t.id es)
changed_own t [] = refl
changed_own t (e ∷ es) =
    by_id e.1.id t.id
    (λ y same.
    ap (task_of t.id) (cond_is_true (bytes_eq e.1.id t.id) ((e.0, t) ∷ es) (e ∷ change_task t es) y)
    ∙ (here (e.0, t) t.id es (same_id t.id t.id refl) ∙ sym (ap (option_map (λ (x : Task). t)) (here e t.id es y))))
    (λ n other.
    ap (task_of t.id) (cond_is_false (bytes_eq e.1.id t.id) ((e.0, t) ∷ es) (e ∷ change_task t es) n)
    ∙ (skip e t.id (change_task t es) n
    ∙ (changed_own t es ∙ sym (ap (option_map (λ (x : Task). t)) (skip e t.id es n)))))

pub changed_beside : (t : Task) (id : List ℕ) (es : Entries) → t.id ≢ id → task_of id (change_task t es) ≡ task_of id es
changed_beside t id [] away = refl
changed_beside t id (e ∷ es) away =
    by_id e.1.id t.id
    (λ y same.
    ap (task_of id) (cond_is_true (bytes_eq e.1.id t.id) ((e.0, t) ∷ es) (e ∷ change_task t es) y)
    ∙ (skip (e.0, t) id es (other_id t.id id away)
    ∙ sym (skip e id es (other_id e.1.id id (λ is. away (sym same ∙ is))))))
    (λ n other.
    ap (task_of id) (cond_is_false (bytes_eq e.1.id t.id) ((e.0, t) ∷ es) (e ∷ change_task t es) n)
    ∙ after (bytes_eq e.1.id id) e (entry_of id (change_task t es)) (entry_of id es) (changed_beside t id es away))

pub both_changed : (t : Task) (es us : Entries) → Same es us → Same (change_task t es) (change_task t us)
both_changed t es us same id =
    by_id t.id id
    (λ y is.
    subst (λ (x : List ℕ). task_of x (change_task t es) ≡ task_of x (change_task t us)) is
    (changed_own t es ∙ (ap (option_map (λ (x : Task). t)) (same t.id) ∙ sym (changed_own t us))))
    (λ n away. changed_beside t id es away ∙ (same id ∙ sym (changed_beside t id us away)))

-- ---- one more

put_own : (k : ℕ) (t : Task) (es : Entries) → task_of t.id es ≡ None → task_of t.id (put_task k t es) ≡ Some t
put_own k t [] none = own_here (k, t) []
put_own k t (e ∷ es) none =
    by_id e.1.id t.id
    (λ y same. absurd (none_is_not e.1 (sym none ∙ here e t.id es y)))
    (λ n other.
    elim (nat_lt k e.0) as (λ (b : Bool). task_of t.id (cond b ((k, t) ∷ e ∷ es) (e ∷ put_task k t es)) ≡ Some t) [
      | true ↦ own_here (k, t) (e ∷ es)
      | false ↦ skip e t.id (put_task k t es) n ∙ put_own k t es (sym (skip e t.id es n) ∙ none)
    ])

pub put_beside :
    (k : ℕ) (t : Task) (id : List ℕ) (es : Entries) → t.id ≢ id → task_of id (put_task k t es) ≡ task_of id es
put_beside k t id [] away = skip (k, t) id [] (other_id t.id id away)
put_beside k t id (e ∷ es) away =
    elim (nat_lt k e.0) as
    (λ (b : Bool). task_of id (cond b ((k, t) ∷ e ∷ es) (e ∷ put_task k t es)) ≡ task_of id (e ∷ es)) [
      | true ↦ skip (k, t) id (e ∷ es) (other_id t.id id away)
      | false ↦
          after (bytes_eq e.1.id id) e (entry_of id (put_task k t es)) (entry_of id es) (put_beside k t id es away)
    ]

-- in whatever slots
pub both_put : (k j : ℕ) (t : Task) (es us : Entries) → Same es us → task_of t.id us ≡ None
    → Same (put_task k t es) (put_task j t us)
both_put k j t es us same none id =
    by_id t.id id
    (λ y is.
    subst (λ (x : List ℕ). task_of x (put_task k t es) ≡ task_of x (put_task j t us)) is
    (put_own k t es (same t.id ∙ none) ∙ sym (put_own j t us none)))
    (λ n away. put_beside k t id es away ∙ (same id ∙ sym (put_beside j t id us away)))

-- ---- one less

removed_own : (id : List ℕ) (es : Entries) → Distinct es → task_of id (remove_task id es) ≡ None
removed_own id [] d = refl
removed_own id (e ∷ es) d =
    by_id e.1.id id
    (λ y same.
    ap (task_of id) (cond_is_true (bytes_eq e.1.id id) es (e ∷ remove_task id es) y) ∙ first_away e id es d same)
    (λ n other.
    ap (task_of id) (cond_is_false (bytes_eq e.1.id id) es (e ∷ remove_task id es) n)
    ∙ (skip e id (remove_task id es) n ∙ removed_own id es d.1))

pub removed_beside : (gone id : List ℕ) (es : Entries) → gone ≢ id → task_of id (remove_task gone es) ≡ task_of id es
removed_beside gone id [] away = refl
removed_beside gone id (e ∷ es) away =
    by_id e.1.id gone
    (λ y same.
    ap (task_of id) (cond_is_true (bytes_eq e.1.id gone) es (e ∷ remove_task gone es) y)
    ∙ sym (skip e id es (other_id e.1.id id (λ is. away (sym same ∙ is)))))
    (λ n other.
    ap (task_of id) (cond_is_false (bytes_eq e.1.id gone) es (e ∷ remove_task gone es) n)
    ∙ after (bytes_eq e.1.id id) e (entry_of id (remove_task gone es)) (entry_of id es)
    (removed_beside gone id es away))

pub both_removed : (gone : List ℕ) (es us : Entries) → Distinct es → Distinct us → Same es us
    → Same (remove_task gone es) (remove_task gone us)
both_removed gone es us d d' same id =
    by_id gone id
    (λ y is.
    subst (λ (x : List ℕ). task_of x (remove_task gone es) ≡ task_of x (remove_task gone us)) is
    (removed_own gone es d ∙ sym (removed_own gone us d')))
    (λ n away. removed_beside gone id es away ∙ (same id ∙ sym (removed_beside gone id us away)))

-- ---- how many there are

pub same_count : (es us : Entries) → Distinct es → Distinct us → Same es us → length es ≡ length us
same_count [] [] d d' same = refl
same_count [] (u ∷ us) d d' same = absurd (none_is_not u.1 (same u.1.id ∙ own_here u us))
same_count (e ∷ es) us d d' same =
    let at : task_of e.1.id us ≡ Some e.1 = sym (same e.1.id) ∙ own_here e es in
    let f = found e.1.id us e.1 at in
    let rest : Same es (remove_task e.1.id us) =
    λ id.
    by_id e.1.id id
    (λ y is.
    first_away e id es d is
    ∙ sym (subst (λ (x : List ℕ). task_of x (remove_task e.1.id us) ≡ None) is (removed_own e.1.id us d')))
    (λ n away. sym (skip e id es n) ∙ (same id ∙ sym (removed_beside e.1.id id us away))) in
    ap (λ (n : ℕ). suc n)
    (same_count es (remove_task e.1.id us) d.1 (remove_distinct (λ (x : ℕ × Task). x.1.id) e.1.id us d') rest)
    ∙ remove_length e.1.id (f.0, e.1) us f.1

-- ---- which digests they name

used_of : (digest id : List ℕ) (t : Task) (es : Entries) → task_of id es ≡ Some t
    → bytes_eq t.process.module digest ≡ true → is_among digest (used_by es) ≡ true
used_of digest id t [] at is = absurd (none_is_not t at)
used_of digest id t (e ∷ es) at is =
    by_id e.1.id id
    (λ y same.
    let own : e.1 ≡ t = some_is e.1 t (sym (here e id es y) ∙ at) in
    or_left (bytes_eq e.1.process.module digest) (is_among digest (used_by es))
    (ap (λ (x : Task). bytes_eq x.process.module digest) own ∙ is))
    (λ n other.
    or_right (bytes_eq e.1.process.module digest) (is_among digest (used_by es))
    (used_of digest id t es (sym (skip e id es n) ∙ at) is))

uses : (digest : List ℕ) (es us : Entries) → Distinct es
    → ((id : List ℕ) (t : Task) → task_of id es ≡ Some t → task_of id us ≡ Some t)
    → is_among digest (used_by es) ≡ true → is_among digest (used_by us) ≡ true
uses digest [] us d has h = cc
uses digest (e ∷ es) us d has h =
    by
    (uses digest es us d.1
    (λ id t at.
    has id t
    (by_id e.1.id id
    (λ y is. absurd (none_is_not t (sym (first_away e id es d is) ∙ at)))
    (λ n away. skip e id es n ∙ at))))
    (bytes_eq e.1.process.module digest) refl h
  where
    by : (is_among digest (used_by es) ≡ true → is_among digest (used_by us) ≡ true) → (b : Bool)
        → bytes_eq e.1.process.module digest ≡ b → (b || is_among digest (used_by es)) ≡ true
        → is_among digest (used_by us) ≡ true
    by rest true is h = used_of digest e.1.id e.1 us (has e.1.id e.1 (own_here e es)) is
    by rest false is h = rest h

both_true : (a b : Bool) → (a ≡ true → b ≡ true) → (b ≡ true → a ≡ true) → a ≡ b
both_true true b f g = sym (f refl)
both_true false true f g = g refl
both_true false false f g = refl

pub same_uses : (digest : List ℕ) (es us : Entries) → Distinct es → Distinct us → Same es us
    → is_among digest (used_by es) ≡ is_among digest (used_by us)
same_uses digest es us d d' same =
    both_true (is_among digest (used_by es)) (is_among digest (used_by us))
    (uses digest es us d (λ id t at. sym (same id) ∙ at))
    (uses digest us es d' (λ id t at. same id ∙ at))

pub same_filter : {X : Type 0} (f g : X → Bool) → ((x : X) → f x ≡ g x) → (xs : List X) → filter f xs ≡ filter g xs
same_filter {X} f g same [] = refl
same_filter {X} f g same (x ∷ xs) =
    ap₂ (λ (b : Bool) (ys : List X). cond b (x ∷ ys) ys) (same x) (same_filter f g same xs)
