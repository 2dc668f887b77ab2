-- Tasks with their slots: looked up by slot and by id, changed and added.
use Rattle.std.proofs.Common.{◌≡◌, ◌≢◌, ℕ, suc, ◌<◌, List, [], ◌∷◌, map, length, Bool, true, false, cond, bytes_eq, nat_eq, nat_lt, Some, None, inl, inr, ◌⊎◌, refl, sym, ap, ap₂, ◌∙◌, subst, arith}
use Rattle.std.proofs.lemmas.Bool.Decides.{eqb_tells, nat_tests}
use Rattle.std.proofs.lemmas.Slice.Eq.{bytes_eq-Decides}
use Rattle.task_board.specs.BoardState.{Task, Entries, task_in, entry_of, put_task, change_task, remove_task}
use Rattle.task_board.specs.Sound.{Each, AreDistinct, AreRising, slots_of, ids_of, incarnations_of}

-- ---- tests

pub cond_true : {X : Type 0} (b : Bool) (x y z : X) → b ≡ true → cond b x y ≡ z → x ≡ z
cond_true {X} b x y z is h = subst (λ (c : Bool). cond c x y ≡ z) is h

pub cond_false : {X : Type 0} (b : Bool) (x y z : X) → b ≡ false → cond b x y ≡ z → y ≡ z
cond_false {X} b x y z is h = subst (λ (c : Bool). cond c x y ≡ z) is h

pub cond_is_true : {X : Type 0} (b : Bool) (x y : X) → b ≡ true → cond b x y ≡ x
cond_is_true {X} b x y is = ap (λ (c : Bool). cond c x y) is

pub cond_is_false : {X : Type 0} (b : Bool) (x y : X) → b ≡ false → cond b x y ≡ y
cond_is_false {X} b x y is = ap (λ (c : Bool). cond c x y) is

pub slot_tells : (a b : ℕ) → ((nat_eq a b ≡ true) × (a ≡ b)) ⊎ ((nat_eq a b ≡ false) × (a ≢ b))
slot_tells a b = eqb_tells a b

id_tells_by : (x y : List ℕ) (b : Bool) → bytes_eq x y ≡ b
    → ((bytes_eq x y ≡ true) × (x ≡ y)) ⊎ ((bytes_eq x y ≡ false) × (x ≢ y))
id_tells_by x y true is = inl (is, (bytes_eq-Decides x y).0 is)
id_tells_by x y false is = inr (is, λ same. let yes : bytes_eq x y ≡ true = (bytes_eq-Decides x y).1 same in cc)

pub id_tells : (x y : List ℕ) → ((bytes_eq x y ≡ true) × (x ≡ y)) ⊎ ((bytes_eq x y ≡ false) × (x ≢ y))
id_tells x y = id_tells_by x y (bytes_eq x y) refl

pub same_id : (x y : List ℕ) → x ≡ y → bytes_eq x y ≡ true
same_id x y is = (bytes_eq-Decides x y).1 is

other_id_by : (x y : List ℕ) (b : Bool) → bytes_eq x y ≡ b → x ≢ y → bytes_eq x y ≡ false
other_id_by x y true is other = absurd (other ((bytes_eq-Decides x y).0 is))
other_id_by x y false is other = is

pub other_id : (x y : List ℕ) → x ≢ y → bytes_eq x y ≡ false
other_id x y other = other_id_by x y (bytes_eq x y) refl other

pub same_slot : (a b : ℕ) → a ≡ b → nat_eq a b ≡ true
same_slot a b is = grind (arith, nat_tests, is)

other_slot_by :
    (a b : ℕ) → a ≢ b → ((nat_eq a b ≡ true) × (a ≡ b)) ⊎ ((nat_eq a b ≡ false) × (a ≢ b)) → nat_eq a b ≡ false
other_slot_by a b other (inl y) = absurd (other y.1)
other_slot_by a b other (inr n) = n.0

pub other_slot : (a b : ℕ) → a ≢ b → nat_eq a b ≡ false
other_slot a b other = other_slot_by a b other (slot_tells a b)

by_slot_of : {P : Type 0} (a b : ℕ) → (nat_eq a b ≡ true → a ≡ b → P) → (nat_eq a b ≡ false → a ≢ b → P)
    → ((nat_eq a b ≡ true) × (a ≡ b)) ⊎ ((nat_eq a b ≡ false) × (a ≢ b)) → P
by_slot_of {P} a b on off (inl y) = on y.0 y.1
by_slot_of {P} a b on off (inr n) = off n.0 n.1

-- by cases of a test of two slots
pub by_slot : {P : Type 0} (a b : ℕ) → (nat_eq a b ≡ true → a ≡ b → P) → (nat_eq a b ≡ false → a ≢ b → P) → P
by_slot {P} a b on off = by_slot_of a b on off (slot_tells a b)

by_id_of : {P : Type 0} (x y : List ℕ) → (bytes_eq x y ≡ true → x ≡ y → P) → (bytes_eq x y ≡ false → x ≢ y → P)
    → ((bytes_eq x y ≡ true) × (x ≡ y)) ⊎ ((bytes_eq x y ≡ false) × (x ≢ y)) → P
by_id_of {P} x y on off (inl t) = on t.0 t.1
by_id_of {P} x y on off (inr f) = off f.0 f.1

-- by cases of a test of two texts
pub by_id : {P : Type 0} (x y : List ℕ) → (bytes_eq x y ≡ true → x ≡ y → P) → (bytes_eq x y ≡ false → x ≢ y → P) → P
by_id {P} x y on off = by_id_of x y on off (id_tells x y)

pub some_is : {X : Type 0} (x y : X) → Some x ≡ Some y → x ≡ y
some_is {X} x y h = cc

pub none_is_not : {X : Type 0} (x : X) → None ≡ Some x → ⊥
none_is_not {X} x h = cc

-- ---- look-up

pub each_in : (P : Task → Type 0) (k : ℕ) (t : Task) (es : Entries) → Each (λ (e : ℕ × Task). P e.1) es
    → task_in k es ≡ Some t → P t
each_in P k t [] each h = absurd (none_is_not t h)
each_in P k t (e ∷ es) each h =
    by_slot e.0 k
    (λ y same_y. subst P (some_is e.1 t (cond_true (nat_eq e.0 k) (Some e.1) (task_in k es) (Some t) y h)) each.0)
    (λ n other_n. each_in P k t es each.1 (cond_false (nat_eq e.0 k) (Some e.1) (task_in k es) (Some t) n h))

pub id_away : (x : List ℕ) (k : ℕ) (t : Task) (es : Entries) → Each (λ (y : List ℕ). x ≢ y) (ids_of es)
    → task_in k es ≡ Some t → x ≢ t.id
id_away x k t [] each h = absurd (none_is_not t h)
id_away x k t (e ∷ es) each h =
    by_slot e.0 k
    (λ y same_y. subst (λ (u : Task). x ≢ u.id)
    (some_is e.1 t (cond_true (nat_eq e.0 k) (Some e.1) (task_in k es) (Some t) y h)) each.0)
    (λ n other_n. id_away x k t es each.1 (cond_false (nat_eq e.0 k) (Some e.1) (task_in k es) (Some t) n h))

-- the task in a slot is found by its id
pub entry_at :
    (k : ℕ) (t : Task) (es : Entries) → AreDistinct (ids_of es) → task_in k es ≡ Some t → entry_of t.id es ≡ Some (k, t)
entry_at k t [] d h = absurd (none_is_not t h)
entry_at k t (e ∷ es) d h =
    by_slot e.0 k
    (λ y same_y.
    let same : e.1 ≡ t = some_is e.1 t (cond_true (nat_eq e.0 k) (Some e.1) (task_in k es) (Some t) y h) in
    let is : bytes_eq e.1.id t.id ≡ true = same_id e.1.id t.id (ap (λ (u : Task). u.id) same) in
    cond_is_true (bytes_eq e.1.id t.id) (Some e) (entry_of t.id es) is
    ∙ ap₂ (λ (j : ℕ) (u : Task). Some (j, u)) same_y same)
    (λ n other_n.
    let rest : task_in k es ≡ Some t = cond_false (nat_eq e.0 k) (Some e.1) (task_in k es) (Some t) n h in
    let is : bytes_eq e.1.id t.id ≡ false = other_id e.1.id t.id (id_away e.1.id k t es d.0 rest) in
    cond_is_false (bytes_eq e.1.id t.id) (Some e) (entry_of t.id es) is ∙ entry_at k t es d.1 rest)

pub named : (id : List ℕ) (es : Entries) (e : ℕ × Task) → entry_of id es ≡ Some e → e.1.id ≡ id
named id [] e h = absurd (none_is_not e h)
named id (x ∷ es) e h =
    by_id x.1.id id
    (λ y same_y. subst (λ (z : ℕ × Task). z.1.id ≡ id)
    (some_is x e (cond_true (bytes_eq x.1.id id) (Some x) (entry_of id es) (Some e) y h)) same_y)
    (λ n other_n. named id es e (cond_false (bytes_eq x.1.id id) (Some x) (entry_of id es) (Some e) n h))

pub slot_away : (j k : ℕ) (id : List ℕ) (e : ℕ × Task) (es : Entries) → Each (λ (m : ℕ). j < m) (slots_of es)
    → entry_of id es ≡ Some e → j < e.0
slot_away j k id e [] each h = absurd (none_is_not e h)
slot_away j k id e (x ∷ es) each h =
    by_id x.1.id id
    (λ y same_y. subst (λ (z : ℕ × Task). j < z.0)
    (some_is x e (cond_true (bytes_eq x.1.id id) (Some x) (entry_of id es) (Some e) y h)) each.0)
    (λ n other_n. slot_away j k id e es each.1 (cond_false (bytes_eq x.1.id id) (Some x) (entry_of id es) (Some e) n h))

-- the task with an id is in its slot
pub in_slot : (id : List ℕ) (e : ℕ × Task) (es : Entries) → AreRising (slots_of es) → entry_of id es ≡ Some e
    → task_in e.0 es ≡ Some e.1
in_slot id e [] r h = absurd (none_is_not e h)
in_slot id e (x ∷ es) r h =
    by_id x.1.id id
    (λ y same_y.
    let same : x ≡ e = some_is x e (cond_true (bytes_eq x.1.id id) (Some x) (entry_of id es) (Some e) y h) in
    cond_is_true (nat_eq x.0 e.0) (Some x.1) (task_in e.0 es) (same_slot x.0 e.0 (ap (λ (z : ℕ × Task). z.0) same))
    ∙ ap (λ (z : ℕ × Task). Some z.1) same)
    (λ n other_n.
    let rest : entry_of id es ≡ Some e = cond_false (bytes_eq x.1.id id) (Some x) (entry_of id es) (Some e) n h in
    let below : x.0 < e.0 = slot_away x.0 e.0 id e es r.0 rest in
    cond_is_false (nat_eq x.0 e.0) (Some x.1) (task_in e.0 es) (other_slot x.0 e.0 (λ same. omega (arith, below, same)))
    ∙ in_slot id e es r.1 rest)

-- ---- one task is changed

pub change_length : (t : Task) (es : Entries) → length (change_task t es) ≡ length es
change_length t [] = refl
change_length t (e ∷ es) =
    (elim (bytes_eq e.1.id t.id) as
    (λ (b : Bool). bytes_eq e.1.id t.id ≡ b → length (cond b ((e.0, t) ∷ es) (e ∷ change_task t es)) ≡ length (e ∷ es))
    [ true ↦ λ is. refl | false ↦ λ is. ap (λ (n : ℕ). suc n) (change_length t es) ]) refl

pub change_slots : (t : Task) (es : Entries) → slots_of (change_task t es) ≡ slots_of es
change_slots t [] = refl
change_slots t (e ∷ es) =
    (elim (bytes_eq e.1.id t.id) as
    (λ (b : Bool). bytes_eq e.1.id t.id ≡ b
    → slots_of (cond b ((e.0, t) ∷ es) (e ∷ change_task t es)) ≡ slots_of (e ∷ es))
    [ true ↦ λ is. refl | false ↦ λ is. ap (λ (ns : List ℕ). e.0 ∷ ns) (change_slots t es) ]) refl

pub change_ids : (t : Task) (es : Entries) → ids_of (change_task t es) ≡ ids_of es
change_ids t [] = refl
change_ids t (e ∷ es) =
    (elim (bytes_eq e.1.id t.id) as
    (λ (b : Bool). bytes_eq e.1.id t.id ≡ b
    → ids_of (cond b ((e.0, t) ∷ es) (e ∷ change_task t es)) ≡ ids_of (e ∷ es)) [
      | true ↦ λ is. ap (λ (x : List ℕ). x ∷ ids_of es) (sym ((bytes_eq-Decides e.1.id t.id).0 is))
      | false ↦ λ is. ap (λ (xs : List (List ℕ)). e.1.id ∷ xs) (change_ids t es)
    ]) refl

pub change_incarnations :
    (t old : Task) (k : ℕ) (es : Entries) → entry_of t.id es ≡ Some (k, old) → t.incarnation ≡ old.incarnation
    → incarnations_of (change_task t es) ≡ incarnations_of es
change_incarnations t old k [] h same = refl
change_incarnations t old k (e ∷ es) h same =
    (elim (bytes_eq e.1.id t.id) as
    (λ (b : Bool). cond b (Some e) (entry_of t.id es) ≡ Some (k, old)
    → incarnations_of (cond b ((e.0, t) ∷ es) (e ∷ change_task t es)) ≡ incarnations_of (e ∷ es)) [
      | true ↦ λ is. ap (λ (n : ℕ). n ∷ incarnations_of es)
          (same ∙ ap (λ (z : ℕ × Task). z.1.incarnation) (sym (some_is e (k, old) is)))
      | false ↦ λ is. ap (λ (ns : List ℕ). e.1.incarnation ∷ ns) (change_incarnations t old k es is same)
    ]) h

pub change_each : (P : Task → Type 0) (t : Task) (es : Entries) → P t → Each (λ (e : ℕ × Task). P e.1) es
    → Each (λ (e : ℕ × Task). P e.1) (change_task t es)
change_each P t [] p each = tt
change_each P t (e ∷ es) p each =
    elim (bytes_eq e.1.id t.id) as
    (λ (b : Bool). Each (λ (e : ℕ × Task). P e.1) (cond b ((e.0, t) ∷ es) (e ∷ change_task t es)))
    [ true ↦ (p, each.1) | false ↦ (each.0, change_each P t es p each.1) ]

-- the slot of the task that has its id has the new one
pub changed_in :
    (t old : Task) (k : ℕ) (es : Entries) → AreDistinct (ids_of es) → task_in k es ≡ Some old → old.id ≡ t.id
    → task_in k (change_task t es) ≡ Some t
changed_in t old k [] d h same = absurd (none_is_not old h)
changed_in t old k (e ∷ es) d h same =
    by_slot e.0 k
    (λ y same_y.
    let is_old : e.1 ≡ old = some_is e.1 old (cond_true (nat_eq e.0 k) (Some e.1) (task_in k es) (Some old) y h) in
    let is : bytes_eq e.1.id t.id ≡ true = same_id e.1.id t.id (ap (λ (u : Task). u.id) is_old ∙ same) in
    ap (task_in k) (cond_is_true (bytes_eq e.1.id t.id) ((e.0, t) ∷ es) (e ∷ change_task t es) is)
    ∙ cond_is_true (nat_eq e.0 k) (Some t) (task_in k es) y)
    (λ n other_n.
    let rest : task_in k es ≡ Some old = cond_false (nat_eq e.0 k) (Some e.1) (task_in k es) (Some old) n h in
    let is :
    bytes_eq e.1.id t.id ≡ false = other_id e.1.id t.id (λ x. id_away e.1.id k old es d.0 rest (x ∙ sym same)) in
    ap (task_in k) (cond_is_false (bytes_eq e.1.id t.id) ((e.0, t) ∷ es) (e ∷ change_task t es) is)
    ∙ (cond_is_false (nat_eq e.0 k) (Some e.1) (task_in k (change_task t es)) n ∙ changed_in t old k es d.1 rest same))

-- a slot has what it had, or the new task in place of one with its id
abbrev pub IsChangedIn : Task → ℕ → Entries → Entries → Type 0
IsChangedIn t k es new =
    (task_in k new ≡ task_in k es)
    ⊎ ((old : Task) × (task_in k es ≡ Some old) × (old.id ≡ t.id) × (task_in k new ≡ Some t))

changed_here :
    (t : Task) (k : ℕ) (e : ℕ × Task) (es : Entries) → e.1.id ≡ t.id → IsChangedIn t k (e ∷ es) ((e.0, t) ∷ es)
changed_here t k e es same =
    by_slot e.0 k
    (λ here same_slot. inr (
      e.1,
      cond_is_true (nat_eq e.0 k) (Some e.1) (task_in k es) here,
      same,
      cond_is_true (nat_eq e.0 k) (Some t) (task_in k es) here,
    ))
    (λ there other. inl
    (cond_is_false (nat_eq e.0 k) (Some t) (task_in k es) there
    ∙ sym (cond_is_false (nat_eq e.0 k) (Some e.1) (task_in k es) there)))

changed_below : (t : Task) (k : ℕ) (e : ℕ × Task) (es new : Entries) → nat_eq e.0 k ≡ false → IsChangedIn t k es new
    → IsChangedIn t k (e ∷ es) (e ∷ new)
changed_below t k e es new off (inl same) =
    inl (cond_is_false (nat_eq e.0 k) (Some e.1) (task_in k new) off
    ∙ (same ∙ sym (cond_is_false (nat_eq e.0 k) (Some e.1) (task_in k es) off)))
changed_below t k e es new off (inr one) =
    inr (
      one.0,
      cond_is_false (nat_eq e.0 k) (Some e.1) (task_in k es) off ∙ one.1,
      one.2,
      cond_is_false (nat_eq e.0 k) (Some e.1) (task_in k new) off ∙ one.3,
    )

changed_later :
    (t : Task) (k : ℕ) (e : ℕ × Task) (es new : Entries) → IsChangedIn t k es new → IsChangedIn t k (e ∷ es) (e ∷ new)
changed_later t k e es new is =
    by_slot e.0 k
    (λ here same_slot. inl
    (cond_is_true (nat_eq e.0 k) (Some e.1) (task_in k new) here
    ∙ sym (cond_is_true (nat_eq e.0 k) (Some e.1) (task_in k es) here)))
    (λ there other. changed_below t k e es new there is)

pub change_in : (t : Task) (k : ℕ) (es : Entries) → IsChangedIn t k es (change_task t es)
change_in t k [] = inl refl
change_in t k (e ∷ es) =
    by_id e.1.id t.id
    (λ y same. subst (IsChangedIn t k (e ∷ es))
    (sym (cond_is_true (bytes_eq e.1.id t.id) ((e.0, t) ∷ es) (e ∷ change_task t es) y))
    (changed_here t k e es same))
    (λ n other. subst (IsChangedIn t k (e ∷ es))
    (sym (cond_is_false (bytes_eq e.1.id t.id) ((e.0, t) ∷ es) (e ∷ change_task t es) n))
    (changed_later t k e es (change_task t es) (change_in t k es)))

-- ---- one task more

pub put_length : (k : ℕ) (t : Task) (es : Entries) → length (put_task k t es) ≡ suc (length es)
put_length k t [] = refl
put_length k t (e ∷ es) =
    elim (nat_lt k e.0) as
    (λ (b : Bool). length (cond b ((k, t) ∷ e ∷ es) (e ∷ put_task k t es)) ≡ suc (length (e ∷ es)))
    [ true ↦ refl | false ↦ ap (λ (n : ℕ). suc n) (put_length k t es) ]

pub put_each : (P : Task → Type 0) (k : ℕ) (t : Task) (es : Entries) → P t → Each (λ (e : ℕ × Task). P e.1) es
    → Each (λ (e : ℕ × Task). P e.1) (put_task k t es)
put_each P k t [] p each = (p, tt)
put_each P k t (e ∷ es) p each =
    elim (nat_lt k e.0) as
    (λ (b : Bool). Each (λ (e : ℕ × Task). P e.1) (cond b ((k, t) ∷ e ∷ es) (e ∷ put_task k t es)))
    [ true ↦ (p, each) | false ↦ (each.0, put_each P k t es p each.1) ]

-- what a slot has after another came
pub put_in : (k j : ℕ) (t : Task) (es : Entries) → j ≢ k → task_in j (put_task k t es) ≡ task_in j es
put_in k j t [] other = cond_is_false (nat_eq k j) (Some t) None (other_slot k j (λ e. other (sym e)))
put_in k j t (e ∷ es) other =
    elim (nat_lt k e.0) as
    (λ (b : Bool). task_in j (cond b ((k, t) ∷ e ∷ es) (e ∷ put_task k t es)) ≡ task_in j (e ∷ es)) [
      | true ↦ cond_is_false (nat_eq k j) (Some t) (task_in j (e ∷ es)) (other_slot k j (λ e. other (sym e)))
      | false ↦ ap (cond (nat_eq e.0 j) (Some e.1)) (put_in k j t es other)
    ]

-- its own slot has it
pub put_there : (k : ℕ) (t : Task) (es : Entries) → task_in k es ≡ None → task_in k (put_task k t es) ≡ Some t
put_there k t [] free = cond_is_true (nat_eq k k) (Some t) None (same_slot k k refl)
put_there k t (e ∷ es) free =
    by_slot e.0 k
    (λ y same. absurd (none_is_not e.1 (sym (cond_true (nat_eq e.0 k) (Some e.1) (task_in k es) None y free))))
    (λ n other.
    let rest : task_in k es ≡ None = cond_false (nat_eq e.0 k) (Some e.1) (task_in k es) None n free in
    elim (nat_lt k e.0) as (λ (b : Bool). task_in k (cond b ((k, t) ∷ e ∷ es) (e ∷ put_task k t es)) ≡ Some t) [
      | true ↦ cond_is_true (nat_eq k k) (Some t) (task_in k (e ∷ es)) (same_slot k k refl)
      | false ↦ cond_is_false (nat_eq e.0 k) (Some e.1) (task_in k (put_task k t es)) n ∙ put_there k t es rest
    ])

-- ---- the first task with an id is changed, or removed

-- a slot has what it had, or the new task in place of the one with its id
abbrev pub IsChangedFrom : Task → Task → ℕ → Entries → Entries → Type 0
IsChangedFrom old t j es new = (task_in j new ≡ task_in j es) ⊎ ((task_in j es ≡ Some old) × (task_in j new ≡ Some t))

from_here :
    (old t : Task) (j : ℕ) (e : ℕ × Task) (es : Entries) → e.1 ≡ old → IsChangedFrom old t j (e ∷ es) ((e.0, t) ∷ es)
from_here old t j e es same =
    by_slot e.0 j
    (λ here at. inr (
      cond_is_true (nat_eq e.0 j) (Some e.1) (task_in j es) here ∙ ap Some same,
      cond_is_true (nat_eq e.0 j) (Some t) (task_in j es) here,
    ))
    (λ there other. inl
    (cond_is_false (nat_eq e.0 j) (Some t) (task_in j es) there
    ∙ sym (cond_is_false (nat_eq e.0 j) (Some e.1) (task_in j es) there)))

from_below :
    (old t : Task) (j : ℕ) (e : ℕ × Task) (es new : Entries) → nat_eq e.0 j ≡ false → IsChangedFrom old t j es new
    → IsChangedFrom old t j (e ∷ es) (e ∷ new)
from_below old t j e es new off (inl same) =
    inl (cond_is_false (nat_eq e.0 j) (Some e.1) (task_in j new) off
    ∙ (same ∙ sym (cond_is_false (nat_eq e.0 j) (Some e.1) (task_in j es) off)))
from_below old t j e es new off (inr one) =
    inr (
      cond_is_false (nat_eq e.0 j) (Some e.1) (task_in j es) off ∙ one.0,
      cond_is_false (nat_eq e.0 j) (Some e.1) (task_in j new) off ∙ one.1,
    )

from_later : (old t : Task) (j : ℕ) (e : ℕ × Task) (es new : Entries) → IsChangedFrom old t j es new
    → IsChangedFrom old t j (e ∷ es) (e ∷ new)
from_later old t j e es new is =
    by_slot e.0 j
    (λ here at. inl
    (cond_is_true (nat_eq e.0 j) (Some e.1) (task_in j new) here
    ∙ sym (cond_is_true (nat_eq e.0 j) (Some e.1) (task_in j es) here)))
    (λ there other. from_below old t j e es new there is)

pub changed_from_old : (old t : Task) (k j : ℕ) (es : Entries) → entry_of t.id es ≡ Some (k, old)
    → IsChangedFrom old t j es (change_task t es)
changed_from_old old t k j [] h = inl refl
changed_from_old old t k j (e ∷ es) h =
    by_id e.1.id t.id
    (λ y same. subst (IsChangedFrom old t j (e ∷ es))
    (sym (cond_is_true (bytes_eq e.1.id t.id) ((e.0, t) ∷ es) (e ∷ change_task t es) y))
    (from_here old t j e es
    (ap (λ (z : ℕ × Task). z.1)
    (some_is e (k, old) (cond_true (bytes_eq e.1.id t.id) (Some e) (entry_of t.id es) (Some (k, old)) y h)))))
    (λ n other. subst (IsChangedFrom old t j (e ∷ es))
    (sym (cond_is_false (bytes_eq e.1.id t.id) ((e.0, t) ∷ es) (e ∷ change_task t es) n))
    (from_later old t j e es (change_task t es)
    (changed_from_old old t k j es
    (cond_false (bytes_eq e.1.id t.id) (Some e) (entry_of t.id es) (Some (k, old)) n h))))

pub remove_each : {X : Type 0} (P : X → Type 0) (f : ℕ × Task → X) (id : List ℕ) (es : Entries) → Each P (map f es)
    → Each P (map f (remove_task id es))
remove_each {X} P f id [] each = tt
remove_each {X} P f id (e ∷ es) each =
    elim (bytes_eq e.1.id id) as (λ (b : Bool). Each P (map f (cond b es (e ∷ remove_task id es))))
    [ true ↦ each.1 | false ↦ (each.0, remove_each P f id es each.1) ]

pub remove_entries : (P : ℕ × Task → Type 0) (id : List ℕ) (es : Entries) → Each P es → Each P (remove_task id es)
remove_entries P id [] each = tt
remove_entries P id (e ∷ es) each =
    elim (bytes_eq e.1.id id) as (λ (b : Bool). Each P (cond b es (e ∷ remove_task id es)))
    [ true ↦ each.1 | false ↦ (each.0, remove_entries P id es each.1) ]

pub remove_distinct : {X : Type 0} (f : ℕ × Task → X) (id : List ℕ) (es : Entries) → AreDistinct (map f es)
    → AreDistinct (map f (remove_task id es))
remove_distinct {X} f id [] d = tt
remove_distinct {X} f id (e ∷ es) d =
    elim (bytes_eq e.1.id id) as (λ (b : Bool). AreDistinct (map f (cond b es (e ∷ remove_task id es))))
    [ true ↦ d.1 | false ↦ (remove_each (λ (y : X). f e ≢ y) f id es d.0, remove_distinct f id es d.1) ]

pub remove_rising : (id : List ℕ) (es : Entries) → AreRising (slots_of es) → AreRising (slots_of (remove_task id es))
remove_rising id [] r = tt
remove_rising id (e ∷ es) r =
    elim (bytes_eq e.1.id id) as (λ (b : Bool). AreRising (slots_of (cond b es (e ∷ remove_task id es)))) [
      | true ↦ r.1
      | false ↦ (remove_each (λ (m : ℕ). e.0 < m) (λ (z : ℕ × Task). z.0) id es r.0, remove_rising id es r.1)
    ]

-- one entry less
pub remove_length :
    (id : List ℕ) (e : ℕ × Task) (es : Entries) → entry_of id es ≡ Some e → suc (length (remove_task id es)) ≡ length es
remove_length id e [] h = absurd (none_is_not e h)
remove_length id e (x ∷ es) h =
    by_id x.1.id id
    (λ y same. ap (λ (xs : Entries). suc (length xs)) (cond_is_true (bytes_eq x.1.id id) es (x ∷ remove_task id es) y))
    (λ n other. ap (λ (xs : Entries). suc (length xs)) (cond_is_false (bytes_eq x.1.id id) es (x ∷ remove_task id es) n)
    ∙ ap (λ (m : ℕ). suc m)
    (remove_length id e es (cond_false (bytes_eq x.1.id id) (Some x) (entry_of id es) (Some e) n h)))

-- no slot below these has a task
nothing_below : (k : ℕ) (es : Entries) → Each (λ (m : ℕ). k < m) (slots_of es) → task_in k es ≡ None
nothing_below k [] each = refl
nothing_below k (e ∷ es) each =
    let below : k < e.0 = each.0 in
    cond_is_false (nat_eq e.0 k) (Some e.1) (task_in k es) (other_slot e.0 k (λ same. omega (arith, below, same)))
    ∙ nothing_below k es each.1

-- its slot has no task afterwards
pub removed_there : (id : List ℕ) (e : ℕ × Task) (es : Entries) → AreRising (slots_of es) → entry_of id es ≡ Some e
    → task_in e.0 (remove_task id es) ≡ None
removed_there id e [] r h = absurd (none_is_not e h)
removed_there id e (x ∷ es) r h =
    by_id x.1.id id
    (λ y same.
    let is : x ≡ e = some_is x e (cond_true (bytes_eq x.1.id id) (Some x) (entry_of id es) (Some e) y h) in
    ap (task_in e.0) (cond_is_true (bytes_eq x.1.id id) es (x ∷ remove_task id es) y)
    ∙ subst (λ (z : ℕ × Task). task_in z.0 es ≡ None) is (nothing_below x.0 es r.0))
    (λ n other.
    let rest : entry_of id es ≡ Some e = cond_false (bytes_eq x.1.id id) (Some x) (entry_of id es) (Some e) n h in
    let below : x.0 < e.0 = slot_away x.0 e.0 id e es r.0 rest in
    ap (task_in e.0) (cond_is_false (bytes_eq x.1.id id) es (x ∷ remove_task id es) n)
    ∙ (cond_is_false (nat_eq x.0 e.0) (Some x.1) (task_in e.0 (remove_task id es))
    (other_slot x.0 e.0 (λ same. omega (arith, below, same))) ∙ removed_there id e es r.1 rest))

-- every other slot keeps what it has
pub removed_beside : (id : List ℕ) (e : ℕ × Task) (j : ℕ) (es : Entries) → entry_of id es ≡ Some e → j ≢ e.0
    → task_in j (remove_task id es) ≡ task_in j es
removed_beside id e j [] h other = refl
removed_beside id e j (x ∷ es) h other =
    by_id x.1.id id
    (λ y same.
    let is : x ≡ e = some_is x e (cond_true (bytes_eq x.1.id id) (Some x) (entry_of id es) (Some e) y h) in
    ap (task_in j) (cond_is_true (bytes_eq x.1.id id) es (x ∷ remove_task id es) y) ∙ sym
    (cond_is_false (nat_eq x.0 j) (Some x.1) (task_in j es)
    (other_slot x.0 j (λ at. other (sym at ∙ ap (λ (z : ℕ × Task). z.0) is)))))
    (λ n differs.
    ap (task_in j) (cond_is_false (bytes_eq x.1.id id) es (x ∷ remove_task id es) n)
    ∙ ap (cond (nat_eq x.0 j) (Some x.1))
    (removed_beside id e j es (cond_false (bytes_eq x.1.id id) (Some x) (entry_of id es) (Some e) n h) other))
