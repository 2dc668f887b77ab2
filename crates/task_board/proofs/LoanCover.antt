-- Of each task that is out the loan stays among those that are held.
use Rattle.std.proofs.Common.{◌≡◌, ◌≢◌, ℕ, zero, suc, ◌+◌, ◌<◌, List, [], ◌∷◌, ◌++◌, Bool, true, false, cond, Option, Some, None, is_some, option_map, option_and_then, slice_get, take, length, get_or, slice_index_or, Ok, Err, inl, inr, refl, sym, ap, ◌∙◌, subst, arith, add-one}
use Rattle.std.specs.List.{remove}
use Rattle.std.proofs.lemmas.Option.{slice_get_within, get_or_from_slice_get}
use Rattle.task_board.specs.declared.ticket.Ticket.{Ticket}
use Rattle.task_requests.specs.declared.request.Request.{Request}
use Rattle.task_board.specs.declared.change.Change.{Change}
use Rattle.task_board.specs.declared.change.Change.TheVariants as change
use Rattle.task_board.specs.Inside.Changes.{changed}
use Rattle.task_board.specs.Inside.Marks.{marked}
use Rattle.task_board.proofs.MarkLemmas.{mark_allowed}
use Rattle.task_board.specs.BoardState.{Task, Entries, BoardState, created_task, task_in, entry_of, task_of, put_task, change_task, remove_task, with_task}
use Rattle.task_board.specs.Tasks.{killed_while, can_lend, lent}
use Rattle.task_board.specs.Step.{Answer, Creates, Answers, is_budget, lends, taken, is_out, Returns}
use Rattle.task_board.specs.Sound.{AreDistinct, ids_of, IsBoard}
use Rattle.task_board.specs.Loans.{Lent, FitsTask}
use Rattle.task_board.specs.Tickets.{ticket_to, ticket_of, CanLend, Lends}
use Rattle.task_board.specs.Inside.Covers.{IsFitting, FitsAt, NoneFits, SomeFits, Covered}
use Rattle.task_board.proofs.EntryLemmas.{none_is_not, some_is, by_slot, entry_at, named, in_slot, change_in, changed_in, put_in, put_there, IsChangedIn, IsChangedFrom, changed_from_old, removed_there, removed_beside, cond_is_false}
use Rattle.task_board.proofs.StepLemmas.{found, task_named, sound_of}
use Rattle.task_board.proofs.EffectLemmas.{change_id, Effect, nothing, stores, enters, changes, deletes, marks, effect_of, marked_idle}

-- ---- what stays

fitting_kept : (ts us : Entries) (j : ℕ) (l : Lent) → task_in j us ≡ task_in j ts → IsFitting ts j l → IsFitting us j l
fitting_kept ts us j l same fit =
    let there : task_in l.slot us ≡ Some fit.1.0 =
    ap (λ (k : ℕ). task_in k us) fit.0 ∙ (same ∙ (ap (λ (k : ℕ). task_in k ts) (sym fit.0) ∙ fit.1.1)) in
    (fit.0, (fit.1.0, there, fit.1.2))

pub some_kept :
    (ts us : Entries) (j : ℕ) (ls : List Lent) → task_in j us ≡ task_in j ts → SomeFits ts j ls → SomeFits us j ls
some_kept ts us j [] same some = absurd some
some_kept ts us j (l ∷ ls) same (inl fit) = inl (fitting_kept ts us j l same fit)
some_kept ts us j (l ∷ ls) same (inr some) = inr (some_kept ts us j ls same some)

-- each task that is out was there before
abbrev pub OutStay : Entries → Entries → Type 0
OutStay ts us =
    (j : ℕ) → (t : Task) → (budget : ℕ) → task_in j us ≡ Some t → t.out ≡ Some budget → task_in j us ≡ task_in j ts

pub covered_kept : (ls : List Lent) (ts us : Entries) → OutStay ts us → Covered ls ts → Covered ls us
covered_kept ls ts us stays covered j t budget there out =
    let same = stays j t budget there out in
    some_kept ts us j ls same (covered j t budget (sym same ∙ there) out)

-- an idle task is not out
idle_not_out :
    (o : Option Task) (t u : Task) (budget : ℕ) → o ≡ Some t → t.out ≡ None → o ≡ Some u → u.out ≡ Some budget → ⊥
idle_not_out o t u budget a idle b out =
    let same : t ≡ u = some_is t u (sym a ∙ b) in
    none_is_not budget (sym (subst (λ (x : Task). x.out ≡ None) same idle) ∙ out)

put_stay : (k : ℕ) (t : Task) (es : Entries) → t.out ≡ None → task_in k es ≡ None → OutStay es (put_task k t es)
put_stay k t es idle free j u budget there out =
    by_slot j k
    (λ y same. absurd
    (idle_not_out (task_in k (put_task k t es)) t u budget (put_there k t es free) idle
    (subst (λ (i : ℕ). task_in i (put_task k t es) ≡ Some u) same there) out))
    (λ n other. put_in k j t es other)

-- ---- requests

same_covered : (ls : List Lent) (s s' : BoardState) → s' ≡ s → Covered ls s.tasks → Covered ls s'.tasks
same_covered ls s s' is covered = subst (λ (x : BoardState). Covered ls x.tasks) (sym is) covered

create_covered :
    (ls : List Lent) (s : BoardState) (config id : List ℕ) (r : Answer) (s' : BoardState) → Creates s config id r s'
    → Covered ls s.tasks → Covered ls s'.tasks
create_covered ls s config id (Err e) s' effect covered = same_covered ls s s' effect.4.1 covered
create_covered ls s config id (Ok r) s' effect covered =
    let enters = effect.4.3 in
    let t = created_task id s.creates effect.1 effect.4.0 effect.0 in
    subst (λ (x : BoardState). Covered ls x.tasks) (sym enters.2)
    (covered_kept ls s.tasks (put_task enters.0 t s.tasks) (put_stay enters.0 t s.tasks refl enters.1) covered)

some_moved :
    (ts us : Entries) (j : ℕ) (ls : List Lent) → ((l : Lent) → IsFitting ts j l → IsFitting us j l) → SomeFits ts j ls
    → SomeFits us j ls
some_moved ts us j [] f some = absurd some
some_moved ts us j (l ∷ ls) f (inl fit) = inl (f l fit)
some_moved ts us j (l ∷ ls) f (inr some) = inr (some_moved ts us j ls f some)

-- a task that is out afterwards was out before, with the same budget
out_before : (c : Change) (t : Task) (budget : ℕ) → (changed c t).out ≡ Some budget → t.out ≡ Some budget
out_before change.Start t budget h = absurd (none_is_not budget h)
out_before change.Pause t budget h = h
out_before change.Resume t budget h = h
out_before (change.Step count) t budget h = absurd (none_is_not budget h)
out_before (change.Kill signal) t budget h = by t.out refl h
  where
    by : (o : Option ℕ) → t.out ≡ o → (killed_while o signal t).out ≡ Some budget → t.out ≡ Some budget
    by None is g = absurd (none_is_not budget g)
    by (Some n) is g = g

-- a change keeps the loan of a task that is out afterwards
loan_stays : (c : Change) (t : Task) (l : Lent) (budget : ℕ) → (changed c t).out ≡ Some budget → FitsTask l t
    → FitsTask l (changed c t)
loan_stays change.Start t l budget h fits = absurd (none_is_not budget h)
loan_stays change.Pause t l budget h fits = fits
loan_stays change.Resume t l budget h fits = fits
loan_stays (change.Step count) t l budget h fits = absurd (none_is_not budget h)
loan_stays (change.Kill signal) t l budget h fits = by t.out h
  where
    by : (o : Option ℕ) → (killed_while o signal t).out ≡ Some budget → FitsTask l (killed_while o signal t)
    by None g = absurd (none_is_not budget g)
    by (Some n) g = fits

change_covered_by :
    (ls : List Lent) (c : Change) (t : Task) (es us : Entries) (j : ℕ) (u : Task) (budget : ℕ) → task_in j us ≡ Some u
    → u.out ≡ Some budget → Covered ls es → IsChangedFrom t (changed c t) j es us → SomeFits us j ls
change_covered_by ls c t es us j u budget there out covered (inl same) =
    some_kept es us j ls same (covered j u budget (sym same ∙ there) out)
change_covered_by ls c t es us j u budget there out covered (inr one) =
    let is : changed c t ≡ u = some_is (changed c t) u (sym one.1 ∙ there) in
    let stays : (changed c t).out ≡ Some budget = ap (λ (x : Task). x.out) is ∙ out in
    some_moved es us j ls
    (λ l fit.
    let own : fit.1.0 ≡ t = some_is fit.1.0 t (sym fit.1.1 ∙ (ap (λ (k : ℕ). task_in k es) fit.0 ∙ one.0)) in
    let at : task_in l.slot us ≡ Some (changed c t) = ap (λ (k : ℕ). task_in k us) fit.0 ∙ one.1 in
    (fit.0, (changed c t, at, loan_stays c t l budget stays (subst (λ (x : Task). FitsTask l x) own fit.1.2))))
    (covered j t budget one.0 (out_before c t budget stays))

change_covered : (ls : List Lent) (s : BoardState) (c : Change) (id : List ℕ) (t : Task) → task_of id s.tasks ≡ Some t
    → Covered ls s.tasks → Covered ls (change_task (changed c t) s.tasks)
change_covered ls s c id t at covered j u budget there out =
    let f = found id s.tasks t at in
    let own : entry_of (changed c t).id s.tasks ≡ Some (f.0, t) =
    ap (λ (x : List ℕ). entry_of x s.tasks) (change_id c t ∙ task_named id s.tasks t at) ∙ f.1 in
    change_covered_by ls c t s.tasks (change_task (changed c t) s.tasks) j u budget there out covered
    (changed_from_old t (changed c t) f.0 j s.tasks own)

-- what is idle afterwards needs no loan
idle_covered_by : (ls : List Lent) (old new : Task) (es us : Entries) (j : ℕ) (u : Task) (budget : ℕ) → new.out ≡ None
    → task_in j us ≡ Some u → u.out ≡ Some budget → Covered ls es → IsChangedFrom old new j es us → SomeFits us j ls
idle_covered_by ls old new es us j u budget idle there out covered (inl same) =
    some_kept es us j ls same (covered j u budget (sym same ∙ there) out)
idle_covered_by ls old new es us j u budget idle there out covered (inr one) =
    absurd (idle_not_out (task_in j us) new u budget one.1 idle there out)

idle_covered : (ls : List Lent) (s : BoardState) (id : List ℕ) (old new : Task) → task_of id s.tasks ≡ Some old
    → new.id ≡ old.id → new.out ≡ None → Covered ls s.tasks → Covered ls (change_task new s.tasks)
idle_covered ls s id old new at same idle covered j u budget there out =
    let f = found id s.tasks old at in
    let own : entry_of new.id s.tasks ≡ Some (f.0, old) =
    ap (λ (x : List ℕ). entry_of x s.tasks) (same ∙ task_named id s.tasks old at) ∙ f.1 in
    idle_covered_by ls old new s.tasks (change_task new s.tasks) j u budget idle there out covered
    (changed_from_old old new f.0 j s.tasks own)

delete_covered : (ls : List Lent) (s : BoardState) (id : List ℕ) (t : Task) → IsBoard s → task_of id s.tasks ≡ Some t
    → Covered ls s.tasks → Covered ls (remove_task t.id s.tasks)
delete_covered ls s id t b at covered j u budget there out =
    let f = found id s.tasks t at in
    let own : entry_of t.id s.tasks ≡ Some (f.0, t) =
    ap (λ (x : List ℕ). entry_of x s.tasks) (task_named id s.tasks t at) ∙ f.1 in
    let us = remove_task t.id s.tasks in
    by_slot j f.0
    (λ y here. absurd
    (none_is_not u
    (sym (removed_there t.id (f.0, t) s.tasks b.slots own) ∙ subst (λ (k : ℕ). task_in k us ≡ Some u) here there)))
    (λ n other.
    let stays : task_in j us ≡ task_in j s.tasks = removed_beside t.id (f.0, t) j s.tasks own other in
    some_kept s.tasks us j ls stays (covered j u budget (sym stays ∙ there) out))

effect_covered :
    (ls : List Lent) (s : BoardState) (q : Request) (s' : BoardState) → IsBoard s → Effect s q s' → Covered ls s.tasks
    → Covered ls s'.tasks
effect_covered ls s q s' b (nothing same) covered = same_covered ls s s' same covered
effect_covered ls s q s' b (stores new change is) covered =
    subst (λ (x : BoardState). Covered ls x.tasks) (sym is) covered
effect_covered ls s q s' b (enters config id r none made) covered = create_covered ls s config id r s' made covered
effect_covered ls s q s' b (changes c id t asked at can is) covered =
    subst (λ (x : BoardState). Covered ls x.tasks) (sym is) (change_covered ls s c id t at covered)
effect_covered ls s q s' b (deletes id t at can is) covered =
    subst (λ (x : BoardState). Covered ls x.tasks) (sym is) (delete_covered ls s id t b at covered)
effect_covered ls s q s' b (marks m id t at none is) covered =
    subst (λ (x : BoardState). Covered ls x.tasks) (sym is)
    (idle_covered ls s id t (marked m t) at refl
    (marked_idle s.creates m t (sound_of s id t b at) (mark_allowed m t none)) covered)

pub answers_covered :
    (ls : List Lent) (s : BoardState) (q : Request) (r : Answer) (s' : BoardState) → IsBoard s → Answers s q r s'
    → Covered ls s.tasks → Covered ls s'.tasks
answers_covered ls s q r s' b a covered = effect_covered ls s q s' b (effect_of s q r s' a) covered

-- ---- a loan more

some_left : (ts : Entries) (j : ℕ) (ls ms : List Lent) → SomeFits ts j ls → SomeFits ts j (ls ++ ms)
some_left ts j [] ms some = absurd some
some_left ts j (l ∷ ls) ms (inl fit) = inl fit
some_left ts j (l ∷ ls) ms (inr some) = inr (some_left ts j ls ms some)

last_fits : (ts : Entries) (j : ℕ) (ls : List Lent) (l : Lent) → IsFitting ts j l → SomeFits ts j (ls ++ l ∷ [])
last_fits ts j [] l fit = inl fit
last_fits ts j (x ∷ ls) l fit = inr (last_fits ts j ls l fit)

-- another slot keeps what it has
change_other_by :
    (t old : Task) (k j : ℕ) (es us : Entries) → AreDistinct (ids_of es) → task_in k es ≡ Some old → old.id ≡ t.id
    → j ≢ k → IsChangedIn t j es us → task_in j us ≡ task_in j es
change_other_by t old k j es us d there same other (inl stays) = stays
change_other_by t old k j es us d there same other (inr one) =
    let a :
    entry_of t.id es ≡ Some (k, old) = ap (λ (x : List ℕ). entry_of x es) (sym same) ∙ entry_at k old es d there in
    let b : entry_of t.id es ≡ Some (j, one.0) =
    ap (λ (x : List ℕ). entry_of x es) (sym one.2) ∙ entry_at j one.0 es d one.1 in
    absurd (other (ap (λ (e : ℕ × Task). e.0) (some_is (j, one.0) (k, old) (sym b ∙ a))))

pub change_other :
    (t old : Task) (k j : ℕ) (es : Entries) → AreDistinct (ids_of es) → task_in k es ≡ Some old → old.id ≡ t.id → j ≢ k
    → task_in j (change_task t es) ≡ task_in j es
change_other t old k j es d there same other =
    change_other_by t old k j es (change_task t es) d there same other (change_in t j es)

pub lends_covered :
    (s : BoardState) (ticket : Ticket) (budget : ℕ) (l : Lent) (s' : BoardState) (ls : List Lent) → IsBoard s
    → Lends s ticket budget l s' → Covered ls s.tasks → Covered (ls ++ l ∷ []) s'.tasks
lends_covered s ticket budget l s' ls b is covered =
    let new = lent is.task budget in
    let us = change_task new s.tasks in
    let slot : l.slot ≡ ticket.slot = ap (λ (x : Lent). x.slot) is.loan in
    let fits : FitsTask l new = subst (λ (x : Lent). FitsTask x new) (sym is.loan) (refl, refl) in
    let at : task_in l.slot us ≡ Some new =
    ap (λ (k : ℕ). task_in k us) slot ∙ changed_in new is.task ticket.slot s.tasks b.ids is.can.there refl in
    subst (λ (x : BoardState). Covered (ls ++ l ∷ []) x.tasks) (sym is.leaves)
    (λ j u n there out. by_slot j ticket.slot
    (λ y same. last_fits us j ls l (slot ∙ sym same, (new, at, fits)))
    (λ off other.
    let stays = change_other new is.task ticket.slot j s.tasks b.ids is.can.there refl other in
    some_left us j ls (l ∷ []) (some_kept s.tasks us j ls stays (covered j u n (sym stays ∙ there) out))))

-- ---- a loan less

some_but : (ts : Entries) (j : ℕ) (ls : List Lent) (i : ℕ) (l : Lent) → slice_get ls i ≡ Some l → (l.slot ≡ j → ⊥)
    → SomeFits ts j ls → SomeFits ts j (remove ls i)
some_but ts j [] i l at other some = absurd some
some_but ts j (x ∷ ls) zero l at other (inl fit) =
    absurd (other (subst (λ (y : Lent). y.slot ≡ j) (some_is x l at) fit.0))
some_but ts j (x ∷ ls) zero l at other (inr some) = some
some_but ts j (x ∷ ls) (suc i) l at other (inl fit) = inl fit
some_but ts j (x ∷ ls) (suc i) l at other (inr some) = inr (some_but ts j ls i l at other some)

covered_less : (s : BoardState) (ls : List Lent) (i : ℕ) (l : Lent) (t new : Task) → IsBoard s → slice_get ls i ≡ Some l
    → task_in l.slot s.tasks ≡ Some t → t.id ≡ new.id → new.out ≡ None
    → Covered ls s.tasks → Covered (remove ls i) (change_task new s.tasks)
covered_less s ls i l t new b at there same idle covered j u budget is out =
    let us = change_task new s.tasks in
    by_slot j l.slot
    (λ y here. absurd
    (idle_not_out (task_in l.slot us) new u budget (changed_in new t l.slot s.tasks b.ids there same) idle
    (subst (λ (k : ℕ). task_in k us ≡ Some u) here is) out))
    (λ n other.
    let stays = change_other new t l.slot j s.tasks b.ids there same other in
    some_but us j ls i l at (λ e. other (sym e))
    (some_kept s.tasks us j ls stays (covered j u budget (sym stays ∙ is) out)))

returns_covered_by :
    (s : BoardState) (ls : List Lent) (i : ℕ) (l : Lent) (t : Task) (o : Option Task) (s' : BoardState) → IsBoard s
    → slice_get ls i ≡ Some l → task_in l.slot s.tasks ≡ Some t
    → o ≡ Some t → Returns s o s' → Covered ls s.tasks → Covered (remove ls i) s'.tasks
returns_covered_by s ls i l t None s' b at there is back covered = absurd back
returns_covered_by s ls i l t (Some u) s' b at there is back covered =
    let same : u ≡ t = some_is u t is in
    let id : t.id ≡ (back.0).id = ap (λ (x : Task). x.id) (sym same) ∙ ap (λ (x : Task). x.id) (sym back.1.advances) in
    let idle : (back.0).out ≡ None = ap (λ (x : Task). x.out) back.1.advances in
    subst (λ (x : BoardState). Covered (remove ls i) x.tasks) (sym back.2)
    (covered_less s ls i l t back.0 b at there id idle covered)

pub returns_covered :
    (s : BoardState) (ls : List Lent) (i : ℕ) (l : Lent) (t : Task) (id : List ℕ) (s' : BoardState) → IsBoard s
    → slice_get ls i ≡ Some l → task_in l.slot s.tasks ≡ Some t
    → task_of id s.tasks ≡ Some t → Returns s (task_of id s.tasks) s' → Covered ls s.tasks
    → Covered (remove ls i) s'.tasks
returns_covered s ls i l t id s' b at there is back covered =
    returns_covered_by s ls i l t (task_of id s.tasks) s' b at there is back covered

-- ---- which loan fits

not_both : (ts : Entries) (k : ℕ) (ls : List Lent) → NoneFits ts k ls → SomeFits ts k ls → ⊥
not_both ts k [] none some = some
not_both ts k (l ∷ ls) none (inl fit) = none.0 fit
not_both ts k (l ∷ ls) none (inr some) = not_both ts k ls none.1 some

one_more : (ts : Entries) (slot : ℕ) (ls : List Lent) (i : ℕ) (d : Lent) → i < length ls → NoneFits ts slot (take i ls)
    → (IsFitting ts slot (get_or ls i d) → ⊥) → NoneFits ts slot (take (suc i) ls)
one_more ts slot [] i d below none unfit = absurd (omega arith)
one_more ts slot (l ∷ ls) zero d below none unfit = (unfit, tt)
one_more ts slot (l ∷ ls) (suc i) d below none unfit = (none.0, one_more ts slot ls i d (omega arith) none.1 unfit)

pub none_more :
    (ts : Entries) (slot : ℕ) (ls : List Lent) (i : ℕ) (d : Lent) → i < length ls → NoneFits ts slot (take i ls)
    → (IsFitting ts slot (get_or ls i d) → ⊥) → NoneFits ts slot (take (i + 1) ls)
none_more ts slot ls i d below none unfit = rw (add-one i) (one_more ts slot ls i d below none unfit)

-- the loan at that index is there
pub fits_within : (ts : Entries) (slot : ℕ) (ls : List Lent) (i : ℕ) → FitsAt ts slot ls i → i < length ls
fits_within ts slot ls i at = slice_get_within ls i at.0 at.1

-- it is the one that is taken out
pub fits_taken :
    (ts : Entries) (slot : ℕ) (ls : List Lent) (i : ℕ) (l : Lent) → FitsAt ts slot ls i → l ≡ slice_index_or ls i l
    → (slice_get ls i ≡ Some l) × IsFitting ts slot l
fits_taken ts slot ls i l at is =
    let read : slice_index_or ls i l ≡ at.0 = get_or_from_slice_get ls i at.0 l at.1 in
    let same : at.0 ≡ l = sym (is ∙ read) in
    (at.1 ∙ ap Some same, subst (λ (x : Lent). IsFitting ts slot x) same at.2)

-- a run of its slice leaves what it names
pub fits_run :
    (ts : Entries) (slot : ℕ) (l m : Lent) → m ≡ record l { ran = true } → IsFitting ts slot l → IsFitting ts slot m
fits_run ts slot l m is fit =
    let own : FitsTask (record l { ran = true }) fit.1.0 =
    (ap (λ (x : Lent). record x { ran = true }) fit.1.2.0, fit.1.2.1) in
    subst (λ (x : Lent). IsFitting ts slot x) (sym is) (fit.0, (fit.1.0, fit.1.1, own))

-- ---- tickets

ticket_by : (o : Option (ℕ × Task)) (ticket : Ticket) → option_map ticket_to o ≡ Some ticket
    → (e : ℕ × Task) × (o ≡ Some e) × (ticket_to e ≡ ticket)
ticket_by None ticket h = absurd (none_is_not ticket h)
ticket_by (Some e) ticket h = (e, refl, some_is (ticket_to e) ticket h)

-- the entry that a ticket of an id names
pub ticket_entry : (id : List ℕ) (ts : Entries) (ticket : Ticket) → ticket_of id ts ≡ Some ticket
    → (e : ℕ × Task) × (entry_of id ts ≡ Some e) × (ticket_to e ≡ ticket)
ticket_entry id ts ticket h = ticket_by (entry_of id ts) ticket h

not_lent_by : (s : BoardState) (budget : ℕ) (t : Task) (b : Bool) → can_lend t ≡ b → (can_lend t ≡ true → ⊥)
    → lends s budget t ≡ None
not_lent_by s budget t true is cannot = absurd (cannot is)
not_lent_by s budget t false is cannot = cond_is_false (can_lend t) (Some (with_task s (lent t budget))) None is

pub not_taken :
    (s : BoardState) (id : List ℕ) (ticket : Ticket) (budget : ℕ) → IsBoard s → ticket_of id s.tasks ≡ Some ticket
    → ((t : Task) → CanLend ticket s.tasks t → ⊥) → taken s id budget ≡ None
not_taken s id ticket budget b h cannot =
    let e = ticket_entry id s.tasks ticket h in
    let there = in_slot id e.0 s.tasks b.slots e.1 in
    let at : task_of id s.tasks ≡ Some e.0.1 = ap (option_map (λ (x : ℕ × Task). x.1)) e.1 in
    let slot : e.0.0 ≡ ticket.slot = ap (λ (x : Ticket). x.slot) e.2 in
    let none :
    lends s budget e.0.1 ≡ None = not_lent_by s budget e.0.1 (can_lend e.0.1) refl (λ can. cannot e.0.1 (record {
      there = ap (λ (k : ℕ). task_in k s.tasks) (sym slot) ∙ there;
      of = ap (λ (x : Ticket). x.incarnation) e.2;
      ready = can;
    })) in
    elim (is_budget budget) as
    (λ (c : Bool). cond c (option_and_then (lends s budget) (task_of id s.tasks)) None ≡ None) [
      | true ↦ ap (option_and_then (lends s budget)) at ∙ none
      | false ↦ refl
    ]

-- the loan of the ticket's task has the id
pub taken_id : (s : BoardState) (id : List ℕ) (ticket : Ticket) (budget : ℕ) (l : Lent) (s' : BoardState) → IsBoard s
    → ticket_of id s.tasks ≡ Some ticket → Lends s ticket budget l s' → l.id ≡ id
taken_id s id ticket budget l s' b h is =
    let e = ticket_entry id s.tasks ticket h in
    let there = in_slot id e.0 s.tasks b.slots e.1 in
    let slot : e.0.0 ≡ ticket.slot = ap (λ (x : Ticket). x.slot) e.2 in
    let same : is.task ≡ e.0.1 =
    some_is is.task e.0.1 (sym is.can.there ∙ (ap (λ (k : ℕ). task_in k s.tasks) (sym slot) ∙ there)) in
    ap (λ (x : Lent). x.id) is.loan ∙ (ap (λ (x : Task). x.id) same ∙ named id s.tasks e.0 e.1)

-- a task of whose loans none is held is not out
not_out_by :
    (s : BoardState) (k : ℕ) (t : Task) (out : Option ℕ) (ls : List Lent) → t.out ≡ out → task_in k s.tasks ≡ Some t
    → NoneFits s.tasks k ls → Covered ls s.tasks → is_some out ≡ false
not_out_by s k t None ls is there none covered = refl
not_out_by s k t (Some budget) ls is there none covered =
    absurd (not_both s.tasks k ls none (covered k t budget there is))

pub not_out :
    (s : BoardState) (id : List ℕ) (ticket : Ticket) (ls : List Lent) → IsBoard s → ticket_of id s.tasks ≡ Some ticket
    → NoneFits s.tasks ticket.slot ls → Covered ls s.tasks → is_out (task_of id s.tasks) ≡ false
not_out s id ticket ls b h none covered =
    let e = ticket_entry id s.tasks ticket h in
    let there = in_slot id e.0 s.tasks b.slots e.1 in
    let at : task_of id s.tasks ≡ Some e.0.1 = ap (option_map (λ (x : ℕ × Task). x.1)) e.1 in
    let slot : ticket.slot ≡ e.0.0 = ap (λ (x : Ticket). x.slot) (sym e.2) in
    ap is_out at ∙ not_out_by s e.0.0 e.0.1 (e.0.1).out ls refl there
    (subst (λ (k : ℕ). NoneFits s.tasks k ls) slot none) covered

-- the loan that fits in the ticket's slot is of the task with the id
pub record IsOfId (s : BoardState) (id : List ℕ) (l : Lent) : Type 0 where
  pub task : Task
  pub there : task_in l.slot s.tasks ≡ Some task
  pub found : task_of id s.tasks ≡ Some task
  pub own : l.id ≡ id

pub fitting_id :
    (s : BoardState) (id : List ℕ) (ticket : Ticket) (l : Lent) → IsBoard s → ticket_of id s.tasks ≡ Some ticket
    → IsFitting s.tasks ticket.slot l → IsOfId s id l
fitting_id s id ticket l b h fit =
    let e = ticket_entry id s.tasks ticket h in
    let there = in_slot id e.0 s.tasks b.slots e.1 in
    let slot : l.slot ≡ e.0.0 = fit.0 ∙ ap (λ (x : Ticket). x.slot) (sym e.2) in
    let t = fit.1.0 in
    let same : t ≡ e.0.1 = some_is t e.0.1 (sym fit.1.1 ∙ (ap (λ (k : ℕ). task_in k s.tasks) slot ∙ there)) in
    let at : task_of id s.tasks ≡ Some e.0.1 = ap (option_map (λ (x : ℕ × Task). x.1)) e.1 in
    record {
      task = t;
      there = fit.1.1;
      found = at ∙ ap Some (sym same);
      own = ap (λ (x : Lent). x.id) fit.1.2.0 ∙ (ap (λ (x : Task). x.id) same ∙ named id s.tasks e.0 e.1);
    }
