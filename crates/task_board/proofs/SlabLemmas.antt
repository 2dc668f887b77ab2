-- The entries of a slab: what its slots have, one after another.
use Rattle.std.proofs.Common.{◌≡◌, ◌≢◌, ℕ, zero, suc, ◌+◌, ◌<◌, List, [], ◌∷◌, length, set, slice_index_or, true, false, cond, bytes_eq, nat_eq, nat_lt, is_some, Option, Some, None, refl, sym, ap, ◌∙◌, subst, arith}
use Rattle.slab.specs.Slab.{Slab, entries, entries_from, get, slab_len, Updates}
use Rattle.std.proofs.lemmas.Bool.Decides.{nat_tests}
use Rattle.std.proofs.lemmas.List.Recursion.{is_count_by}
use Rattle.task_board.specs.BoardState.{Task, Entries, task_in, put_task, change_task, remove_task}
use Rattle.task_board.specs.Sound.{AreDistinct, ids_of}
use Rattle.task_board.proofs.EntryLemmas.{cond_is_true, cond_is_false, by_slot, same_id, other_id, same_slot, other_slot, some_is, none_is_not, id_away}

-- no entry has a smaller key
none_below : (j key : ℕ) (xs : List (Option Task)) → j < key → task_in j (entries_from key xs) ≡ None
none_below j key [] below = refl
none_below j key (None ∷ xs) below = none_below j (key + 1) xs (omega (arith, below))
none_below j key (Some t ∷ xs) below =
    cond_is_false (nat_eq key j) (Some t) (task_in j (entries_from (key + 1) xs))
    (other_slot key j (λ e. omega (arith, below, e))) ∙ none_below j (key + 1) xs (omega (arith, below))

-- a slot has what the slab has under its key
in_from :
    (key i j : ℕ) (xs : List (Option Task)) → j ≡ key + i → task_in j (entries_from key xs) ≡ slice_index_or xs i None
in_from key i j [] is = refl
in_from key zero j (None ∷ xs) is = none_below j (key + 1) xs (omega (arith, is))
in_from key zero j (Some t ∷ xs) is =
    cond_is_true (nat_eq key j) (Some t) (task_in j (entries_from (key + 1) xs)) (same_slot key j (omega (arith, is)))
in_from key (suc i) j (None ∷ xs) is = in_from (key + 1) i j xs (omega (arith, is))
in_from key (suc i) j (Some t ∷ xs) is =
    cond_is_false (nat_eq key j) (Some t) (task_in j (entries_from (key + 1) xs))
    (other_slot key j (λ e. omega (arith, is, e))) ∙ in_from (key + 1) i j xs (omega (arith, is))

pub in_slab : (s : Slab Task) (k : ℕ) → task_in k (entries s) ≡ get s k
in_slab s k = in_from 0 k k s.slots (omega arith)

-- ---- a write in place

changed_from :
    (key i : ℕ) (old new : Task) (xs : List (Option Task)) → slice_index_or xs i None ≡ Some old → old.id ≡ new.id
    → AreDistinct (ids_of (entries_from key xs))
    → change_task new (entries_from key xs) ≡ entries_from key (set xs i (Some new))
changed_from key i old new [] there same d = absurd (none_is_not old there)
changed_from key zero old new (None ∷ xs) there same d = absurd (none_is_not old there)
changed_from key zero old new (Some t ∷ xs) there same d =
    cond_is_true (bytes_eq t.id new.id) ((key, new) ∷ entries_from (key + 1) xs)
    ((key, t) ∷ change_task new (entries_from (key + 1) xs))
    (same_id t.id new.id (ap (λ (u : Task). u.id) (some_is t old there) ∙ same))
changed_from key (suc i) old new (None ∷ xs) there same d = changed_from (key + 1) i old new xs there same d
changed_from key (suc i) old new (Some t ∷ xs) there same d =
    let j = key + 1 + i in
    let at : task_in j (entries_from (key + 1) xs) ≡ Some old = in_from (key + 1) i j xs refl ∙ there in
    let away : t.id ≢ new.id = λ e. id_away t.id j old (entries_from (key + 1) xs) d.0 at (e ∙ sym same) in
    cond_is_false (bytes_eq t.id new.id) ((key, new) ∷ entries_from (key + 1) xs)
    ((key, t) ∷ change_task new (entries_from (key + 1) xs)) (other_id t.id new.id away)
    ∙ ap (λ (es : Entries). (key, t) ∷ es) (changed_from (key + 1) i old new xs there same d.1)

-- a task that keeps its id is changed where it is
pub changed :
    (s : Slab Task) (k : ℕ) (old new : Task) → get s k ≡ Some old → old.id ≡ new.id → AreDistinct (ids_of (entries s))
    → change_task new (entries s) ≡ entries_from 0 (set s.slots k (Some new))
changed s k old new there same d = changed_from 0 k old new s.slots there same d

-- ---- a removal

removed_from : (key i : ℕ) (old : Task) (xs : List (Option Task)) → slice_index_or xs i None ≡ Some old
    → AreDistinct (ids_of (entries_from key xs))
    → entries_from key (set xs i None) ≡ remove_task old.id (entries_from key xs)
removed_from key i old [] there d = absurd (none_is_not old there)
removed_from key zero old (None ∷ xs) there d = absurd (none_is_not old there)
removed_from key zero old (Some t ∷ xs) there d =
    sym (cond_is_true (bytes_eq t.id old.id) (entries_from (key + 1) xs)
    ((key, t) ∷ remove_task old.id (entries_from (key + 1) xs))
    (same_id t.id old.id (ap (λ (u : Task). u.id) (some_is t old there))))
removed_from key (suc i) old (None ∷ xs) there d = removed_from (key + 1) i old xs there d
removed_from key (suc i) old (Some t ∷ xs) there d =
    let j = key + 1 + i in
    let at : task_in j (entries_from (key + 1) xs) ≡ Some old = in_from (key + 1) i j xs refl ∙ there in
    let away : t.id ≢ old.id = id_away t.id j old (entries_from (key + 1) xs) d.0 at in
    ap (λ (es : Entries). (key, t) ∷ es) (removed_from (key + 1) i old xs there d.1) ∙ sym
    (cond_is_false (bytes_eq t.id old.id) (entries_from (key + 1) xs)
    ((key, t) ∷ remove_task old.id (entries_from (key + 1) xs)) (other_id t.id old.id away))

-- a task is removed from where it is
pub removed : (s : Slab Task) (k : ℕ) (old : Task) → get s k ≡ Some old → AreDistinct (ids_of (entries s))
    → entries_from 0 (set s.slots k None) ≡ remove_task old.id (entries s)
removed s k old there d = removed_from 0 k old s.slots there d

-- ---- an insert

-- the slots with this one more
abbrev pub placed : List (Option Task) → ℕ → Task → List (Option Task)
placed [] zero t = Some t ∷ []
placed [] (suc k) t = None ∷ placed [] k t
placed (x ∷ xs) zero t = Some t ∷ xs
placed (x ∷ xs) (suc k) t = x ∷ placed xs k t

at_placed : (xs : List (Option Task)) (k : ℕ) (t : Task) → slice_index_or (placed xs k t) k None ≡ Some t
at_placed [] zero t = refl
at_placed [] (suc k) t = at_placed [] k t
at_placed (x ∷ xs) zero t = refl
at_placed (x ∷ xs) (suc k) t = at_placed xs k t

beside_placed : (xs : List (Option Task)) (k j : ℕ) (t : Task) → j ≢ k
    → slice_index_or (placed xs k t) j None ≡ slice_index_or xs j None
beside_placed [] zero zero t other = absurd (other refl)
beside_placed [] (suc k) (suc j) t other = beside_placed [] k j t (λ e. other (ap (λ (n : ℕ). suc n) e))
beside_placed (x ∷ xs) zero zero t other = absurd (other refl)
beside_placed (x ∷ xs) (suc k) (suc j) t other = beside_placed xs k j t (λ e. other (ap (λ (n : ℕ). suc n) e))
beside_placed _ _ _ t other = refl

-- slots that have the same under each key have the same entries
same_entries : (key : ℕ) (xs ys : List (Option Task)) → ((j : ℕ) → slice_index_or xs j None ≡ slice_index_or ys j None)
    → entries_from key xs ≡ entries_from key ys
same_entries key [] [] same = refl
same_entries key [] (None ∷ ys) same = same_entries (key + 1) [] ys (λ j. same (suc j))
same_entries key [] (Some t ∷ ys) same = absurd (none_is_not t (same 0))
same_entries key (None ∷ xs) [] same = same_entries (key + 1) xs [] (λ j. same (suc j))
same_entries key (Some t ∷ xs) [] same = absurd (none_is_not t (sym (same 0)))
same_entries key (None ∷ xs) (None ∷ ys) same = same_entries (key + 1) xs ys (λ j. same (suc j))
same_entries key (None ∷ xs) (Some t ∷ ys) same = absurd (none_is_not t (same 0))
same_entries key (Some t ∷ xs) (None ∷ ys) same = absurd (none_is_not t (sym (same 0)))
same_entries key (Some t ∷ xs) (Some u ∷ ys) same =
    ap (λ (x : Task). (key, x) ∷ entries_from (key + 1) xs) (some_is t u (same 0))
    ∙ ap (λ (es : Entries). (key, u) ∷ es) (same_entries (key + 1) xs ys (λ j. same (suc j)))

below : (k j : ℕ) → k < j → nat_lt k j ≡ true
below k j h = grind (arith, nat_tests, h)

not_below : (k j : ℕ) → j < k → nat_lt k j ≡ false
not_below k j h = grind (arith, nat_tests, h)

-- a task before all others
put_first : (key k : ℕ) (t : Task) (xs : List (Option Task)) → k < key
    → put_task k t (entries_from key xs) ≡ (k, t) ∷ entries_from key xs
put_first key k t [] h = refl
put_first key k t (None ∷ xs) h = put_first (key + 1) k t xs (omega (arith, h))
put_first key k t (Some u ∷ xs) h =
    cond_is_true (nat_lt k key) ((k, t) ∷ (key, u) ∷ entries_from (key + 1) xs)
    ((key, u) ∷ put_task k t (entries_from (key + 1) xs)) (below k key h)

placed_from : (key i k : ℕ) (t : Task) (xs : List (Option Task)) → k ≡ key + i → slice_index_or xs i None ≡ None
    → entries_from key (placed xs i t) ≡ put_task k t (entries_from key xs)
placed_from key zero k t [] is free = let same : key ≡ k = omega (arith, is) in ap (λ (j : ℕ). (j, t) ∷ []) same
placed_from key (suc i) k t [] is free = placed_from (key + 1) i k t [] (omega (arith, is)) refl
placed_from key zero k t (None ∷ xs) is free =
    let same : key ≡ k = omega (arith, is) in
    ap (λ (j : ℕ). (j, t) ∷ entries_from (key + 1) xs) same ∙ sym (put_first (key + 1) k t xs (omega (arith, is)))
placed_from key zero k t (Some u ∷ xs) is free = absurd (none_is_not u (sym free))
placed_from key (suc i) k t (None ∷ xs) is free = placed_from (key + 1) i k t xs (omega (arith, is)) free
placed_from key (suc i) k t (Some u ∷ xs) is free =
    ap (λ (es : Entries). (key, u) ∷ es) (placed_from (key + 1) i k t xs (omega (arith, is)) free) ∙ sym
    (cond_is_false (nat_lt k key) ((k, t) ∷ (key, u) ∷ entries_from (key + 1) xs)
    ((key, u) ∷ put_task k t (entries_from (key + 1) xs)) (not_below k key (omega (arith, is))))

-- a task that is inserted under a free key
pub inserted : (old new : Slab Task) (k : ℕ) (t : Task) → get old k ≡ None → Updates old new k (Some t)
    → entries new ≡ put_task k t (entries old)
inserted old new k t free updates =
    same_entries 0 new.slots (placed old.slots k t) (λ j. by_slot j k
    (λ y same. subst (λ (i : ℕ). slice_index_or new.slots i None ≡ slice_index_or (placed old.slots k t) i None)
    (sym same) (updates.changed ∙ sym (at_placed old.slots k t)))
    (λ n other. updates.others j other ∙ sym (beside_placed old.slots k j t other)))
    ∙ placed_from 0 k k t old.slots (omega arith) free

-- ---- how many

abbrev pub filled : List (Option Task) → ℕ
filled [] = 0
filled (None ∷ xs) = filled xs
filled (Some t ∷ xs) = 1 + filled xs

count_from : (key : ℕ) (xs : List (Option Task)) → length (entries_from key xs) ≡ filled xs
count_from key [] = refl
count_from key (None ∷ xs) = count_from (key + 1) xs
count_from key (Some t ∷ xs) = let rest = count_from (key + 1) xs in omega (arith, rest)

filled_more :
    (x : Option Task) (xs : List (Option Task)) → filled (x ∷ xs) ≡ cond (is_some x) (1 + filled xs) (filled xs)
filled_more None xs = refl
filled_more (Some t) xs = refl

pub count : (s : Slab Task) → length (entries s) ≡ slab_len s
count s = count_from 0 s.slots ∙ is_count_by filled is_some refl filled_more s.slots
