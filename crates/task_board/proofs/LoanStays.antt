-- A loan fits from its take to its return, whatever else happens.
use Rattle.std.proofs.Common.{◌≡◌, ◌≢◌, ℕ, List, Bool, true, false, Option, Some, None, Ok, Err, ◌&&◌, is_none, option_map, inl, inr, refl, sym, ap, ◌∙◌, subst, true≢false}
use Rattle.task_board.specs.declared.change.Change.{Change}
use Rattle.task_board.specs.declared.change.Change.TheVariants as change
use Rattle.task_board.specs.declared.ticket.Ticket.{Ticket}
use Rattle.task_board.specs.Inside.Changes.{change_call, changed}
use Rattle.task_board.specs.Inside.Marks.{marked}
use Rattle.task_board.proofs.MarkLemmas.{mark_allowed}
use Rattle.task_lifecycle.specs.Lifecycle.{allowed, takes_turns, is_running}
use Rattle.task_requests.specs.declared.request.Request.{Request}
use Rattle.task_requests.specs.declared.event.Event.{Event}
use Rattle.task_requests.specs.declared.event.Event.TheVariants as event
use Rattle.task_requests.specs.declared.event.EventReply.{EventReply}
use Rattle.task_requests.specs.declared.event.EventReply.TheVariants as answer
use Rattle.task_board.specs.BoardState.{Task, Entries, BoardState, created_task, task_in, entry_of, task_of, put_task, change_task, remove_task}
use Rattle.task_board.specs.Tasks.{killed_while, can_lend, lent}
use Rattle.task_board.specs.Step.{Answer, Creates, Answers, Returns, Step}
use Rattle.task_board.specs.Sound.{IsSound, IsBoard}
use Rattle.task_board.specs.Loans.{Lent, FitsTask, Fits}
use Rattle.task_board.specs.Tickets.{Lends}
use Rattle.task_board.proofs.EntryLemmas.{none_is_not, some_is, by_slot, entry_at, in_slot, changed_in, put_in, IsChangedFrom, changed_from_old, removed_beside}
use Rattle.task_board.proofs.StepLemmas.{found, task_named, sound_of}
use Rattle.task_board.proofs.EffectLemmas.{change_id, created_only, stopped_only, Effect, nothing, stores, enters, changes, deletes, marks, effect_of, marked_idle, steps_idle, not_out}
use Rattle.task_board.proofs.LawLemmas.{taken_of}
use Rattle.task_board.proofs.LoanCover.{change_other}

-- ---- what stays in its slot

same_slot : (l : Lent) (ts us : Entries) → task_in l.slot us ≡ task_in l.slot ts → Fits l ts → Fits l us
same_slot l ts us same fit = (fit.0, same ∙ fit.1, fit.2)

same_board : (l : Lent) (s s' : BoardState) → s' ≡ s → Fits l s.tasks → Fits l s'.tasks
same_board l s s' is fit = subst (λ (x : BoardState). Fits l x.tasks) (sym is) fit

-- the task of a loan that fits is not idle
idle_unfit : (l : Lent) (t : Task) → FitsTask l t → t.out ≡ None → ⊥
idle_unfit l t own idle = none_is_not l.budget (sym idle ∙ own.1)

-- a loan that fits is of this task, if that is in its slot
own_task : (l : Lent) (t : Task) (es : Entries) (fit : Fits l es) → task_in l.slot es ≡ Some t → FitsTask l t
own_task l t es fit there = subst (λ (x : Task). FitsTask l x) (some_is fit.0 t (sym fit.1 ∙ there)) fit.2

idle_in : (creates : ℕ) (t : Task) → IsSound creates t → takes_turns t.status ≡ false → t.out ≡ None
idle_in creates t h idle = not_out t.out (takes_turns t.status) h.out idle

-- ---- requests

enter_stays :
    (l : Lent) (slot : ℕ) (t : Task) (es : Entries) → task_in slot es ≡ None → Fits l es → Fits l (put_task slot t es)
enter_stays l slot t es free fit =
    by_slot l.slot slot
    (λ y same. absurd
    (none_is_not fit.0 (sym (ap (λ (k : ℕ). task_in k es) same ∙ free) ∙ fit.1)))
    (λ n other. same_slot l es (put_task slot t es) (put_in slot l.slot t es other) fit)

create_stays :
    (l : Lent) (s : BoardState) (config id : List ℕ) (r : Answer) (s' : BoardState) → Creates s config id r s'
    → Fits l s.tasks → Fits l s'.tasks
create_stays l s config id (Err e) s' made fit = same_board l s s' made.4.1 fit
create_stays l s config id (Ok r) s' made fit =
    let enters = made.4.3 in
    let t = created_task id s.creates made.1 made.4.0 made.0 in
    subst (λ (x : BoardState). Fits l x.tasks) (sym enters.2) (enter_stays l enters.0 t s.tasks enters.1 fit)

change_stays_by : (l : Lent) (old new : Task) (es us : Entries) → (FitsTask l old → FitsTask l new) → Fits l es
    → IsChangedFrom old new l.slot es us → Fits l us
change_stays_by l old new es us f fit (inl same) = same_slot l es us same fit
change_stays_by l old new es us f fit (inr one) = (new, one.1, f (own_task l old es fit one.0))

change_stays :
    (l : Lent) (s : BoardState) (id : List ℕ) (old new : Task) → task_of id s.tasks ≡ Some old → new.id ≡ old.id
    → (FitsTask l old → FitsTask l new) → Fits l s.tasks → Fits l (change_task new s.tasks)
change_stays l s id old new at same f fit =
    let g = found id s.tasks old at in
    let own : entry_of new.id s.tasks ≡ Some (g.0, old) =
    ap (λ (x : List ℕ). entry_of x s.tasks) (same ∙ task_named id s.tasks old at) ∙ g.1 in
    change_stays_by l old new s.tasks (change_task new s.tasks) f fit (changed_from_old old new g.0 l.slot s.tasks own)

loan_kept :
    (creates : ℕ) (c : Change) (t : Task) (l : Lent) → IsSound creates t → allowed (change_call c) t.status ≡ true
    → FitsTask l t → FitsTask l (changed c t)
loan_kept creates change.Start t l h can own =
    absurd (idle_unfit l t own (idle_in creates t h (ap takes_turns (created_only t.status can))))
loan_kept creates change.Pause t l h can own = own
loan_kept creates change.Resume t l h can own = own
loan_kept creates (change.Step count) t l h can own =
    absurd (idle_unfit l t own (idle_in creates t h (steps_idle t.status can)))
loan_kept creates (change.Kill signal) t l h can own = by t.out own.1
  where
    by : (o : Option ℕ) → o ≡ Some l.budget → FitsTask l (killed_while o signal t)
    by None e = absurd (none_is_not l.budget e)
    by (Some n) e = own

delete_stays :
    (l : Lent) (s : BoardState) (id : List ℕ) (t : Task) → IsBoard s → task_of id s.tasks ≡ Some t → t.out ≡ None
    → Fits l s.tasks → Fits l (remove_task t.id s.tasks)
delete_stays l s id t b at idle fit =
    let g = found id s.tasks t at in
    let own : entry_of t.id s.tasks ≡ Some (g.0, t) =
    ap (λ (x : List ℕ). entry_of x s.tasks) (task_named id s.tasks t at) ∙ g.1 in
    by_slot l.slot g.0
    (λ y same. absurd
    (idle_unfit l t
    (own_task l t s.tasks fit (ap (λ (k : ℕ). task_in k s.tasks) same ∙ in_slot id (g.0, t) s.tasks b.slots g.1))
    idle))
    (λ n other. same_slot l s.tasks (remove_task t.id s.tasks)
    (removed_beside t.id (g.0, t) l.slot s.tasks own other) fit)

effect_stays : (l : Lent) (s : BoardState) (q : Request) (s' : BoardState) → IsBoard s → Effect s q s' → Fits l s.tasks
    → Fits l s'.tasks
effect_stays l s q s' b (nothing same) fit = same_board l s s' same fit
effect_stays l s q s' b (stores new change is) fit = subst (λ (x : BoardState). Fits l x.tasks) (sym is) fit
effect_stays l s q s' b (enters config id r none made) fit = create_stays l s config id r s' made fit
effect_stays l s q s' b (changes c id t asked at can is) fit =
    subst (λ (x : BoardState). Fits l x.tasks) (sym is)
    (change_stays l s id t (changed c t) at (change_id c t)
    (loan_kept s.creates c t l (sound_of s id t b at) can) fit)
effect_stays l s q s' b (deletes id t at can is) fit =
    let idle = idle_in s.creates t (sound_of s id t b at) (ap takes_turns (stopped_only t.status can)) in
    subst (λ (x : BoardState). Fits l x.tasks) (sym is) (delete_stays l s id t b at idle fit)
effect_stays l s q s' b (marks m id t at none is) fit =
    let idle = marked_idle s.creates m t (sound_of s id t b at) (mark_allowed m t none) in
    subst (λ (x : BoardState). Fits l x.tasks) (sym is)
    (change_stays l s id t (marked m t) at refl (λ own. absurd (idle_unfit l t own idle)) fit)

pub answers_stay :
    (s : BoardState) (q : Request) (r : Answer) (s' : BoardState) (l : Lent) → IsBoard s → Answers s q r s'
    → Fits l s.tasks → Fits l s'.tasks
answers_stay s q r s' l b a fit = effect_stays l s q s' b (effect_of s q r s' a) fit

-- ---- slices

-- a task that can be lent is idle
none_lent : (b : Bool) → b && false ≡ true → ⊥
none_lent true h = true≢false (sym h)
none_lent false h = true≢false (sym h)

lendable_idle : (t : Task) → can_lend t ≡ true → t.out ≡ None
lendable_idle t h = by t.out h
  where
    by : (o : Option ℕ) → is_running t.status && is_none o ≡ true → o ≡ None
    by None g = refl
    by (Some n) g = absurd (none_lent (is_running t.status) g)

-- the loan that is taken fits
pub lends_fits : (s : BoardState) (ticket : Ticket) (budget : ℕ) (l : Lent) (s' : BoardState) → IsBoard s
    → Lends s ticket budget l s' → Fits l s'.tasks
lends_fits s ticket budget l s' b is =
    let new = lent is.task budget in
    let us = change_task new s.tasks in
    let slot : l.slot ≡ ticket.slot = ap (λ (x : Lent). x.slot) is.loan in
    let fits : FitsTask l new = subst (λ (x : Lent). FitsTask x new) (sym is.loan) (refl, refl) in
    let at : task_in l.slot us ≡ Some new =
    ap (λ (k : ℕ). task_in k us) slot ∙ changed_in new is.task ticket.slot s.tasks b.ids is.can.there refl in
    subst (λ (x : BoardState). Fits l x.tasks) (sym is.leaves) (new, at, fits)

-- a slice that is taken of a task, or that returns, leaves the loans of the others
beside_stays : (l : Lent) (s : BoardState) (old new : Task) (k : ℕ) → IsBoard s → task_in k s.tasks ≡ Some old
    → old.id ≡ new.id → l.slot ≢ k → Fits l s.tasks → Fits l (change_task new s.tasks)
beside_stays l s old new k b there same other fit =
    same_slot l s.tasks (change_task new s.tasks) (change_other new old k l.slot s.tasks b.ids there same other) fit

pub lends_stays : (s : BoardState) (ticket : Ticket) (budget : ℕ) (m : Lent) (s' : BoardState) (l : Lent) → IsBoard s
    → Lends s ticket budget m s' → Fits l s.tasks → Fits l s'.tasks
lends_stays s ticket budget m s' l b is fit =
    let new = lent is.task budget in
    let idle = lendable_idle is.task is.can.ready in
    subst (λ (x : BoardState). Fits l x.tasks) (sym is.leaves)
    (by_slot l.slot ticket.slot
    (λ y same. absurd
    (idle_unfit l is.task
    (own_task l is.task s.tasks fit (ap (λ (k : ℕ). task_in k s.tasks) same ∙ is.can.there)) idle))
    (λ n other. beside_stays l s is.task new ticket.slot b is.can.there refl other fit))

-- two loans of one task are of one slot
pub one_slot :
    (s : BoardState) (l m : Lent) → IsBoard s → Fits l s.tasks → Fits m s.tasks → l.id ≡ m.id → l.slot ≡ m.slot
one_slot s l m b fit other same =
    let of : (fit.0).id ≡ l.id = sym (ap (λ (x : Lent). x.id) fit.2.0) in
    let to : (other.0).id ≡ m.id = sym (ap (λ (x : Lent). x.id) other.2.0) in
    let a : entry_of (fit.0).id s.tasks ≡ Some (l.slot, fit.0) = entry_at l.slot fit.0 s.tasks b.ids fit.1 in
    let c : entry_of (other.0).id s.tasks ≡ Some (m.slot, other.0) = entry_at m.slot other.0 s.tasks b.ids other.1 in
    let ids : (other.0).id ≡ (fit.0).id = to ∙ sym same ∙ sym of in
    ap (λ (e : ℕ × Task). e.0)
    (some_is (l.slot, fit.0) (m.slot, other.0)
    (sym a ∙ (ap (λ (x : List ℕ). entry_of x s.tasks) (sym ids) ∙ c)))

returned_stays :
    (l : Lent) (s : BoardState) (id : List ℕ) (t : Task) (s' : BoardState) → IsBoard s → task_of id s.tasks ≡ Some t
    → Returns s (Some t) s' → (l.id ≡ id → ⊥) → Fits l s.tasks → Fits l s'.tasks
returned_stays l s id t s' b at back other fit =
    let g = found id s.tasks t at in
    let there = in_slot id (g.0, t) s.tasks b.slots g.1 in
    subst (λ (x : BoardState). Fits l x.tasks) (sym back.2)
    (beside_stays l s t back.0 g.0 b there (sym (ap (λ (x : Task). x.id) back.1.advances))
    (λ same.
    let own = own_task l t s.tasks fit (ap (λ (k : ℕ). task_in k s.tasks) same ∙ there) in
    other (ap (λ (x : Lent). x.id) own.0 ∙ task_named id s.tasks t at)) fit)

returns_stay :
    (l : Lent) (s : BoardState) (id : List ℕ) (o : Option Task) (s' : BoardState) → IsBoard s → task_of id s.tasks ≡ o
    → Returns s o s' → (l.id ≡ id → ⊥) → Fits l s.tasks → Fits l s'.tasks
returns_stay l s id None s' b at back other fit = absurd back
returns_stay l s id (Some t) s' b at back other fit = returned_stays l s id t s' b at back other fit

pub steps_stay : (s : BoardState) (e : Event) (a : EventReply) (s' : BoardState) (l : Lent) → IsBoard s → Step s e a s'
    → (e ≡ event.Return l.id → ⊥) → Fits l s.tasks → Fits l s'.tasks
steps_stay s (event.Call q) (answer.Called a) s' l b step other fit = answers_stay s q a s' l b step fit
steps_stay s (event.Take id budget) (answer.Taken true) s' l b step other fit =
    let is = taken_of s id budget s' step in
    let idle = lendable_idle is.task is.ready in
    subst (λ (x : BoardState). Fits l x.tasks) (sym is.leaves)
    (change_stays l s id is.task (lent is.task budget) is.named refl
    (λ own. absurd (idle_unfit l is.task own idle)) fit)
steps_stay s (event.Take id budget) (answer.Taken false) s' l b step other fit = same_board l s s' step.1 fit
steps_stay s (event.Return id) (answer.Returned true) s' l b step other fit =
    returns_stay l s id (task_of id s.tasks) s' b refl step (λ e. other (ap event.Return (sym e))) fit
steps_stay s (event.Return id) (answer.Returned false) s' l b step other fit = same_board l s s' step.1 fit
steps_stay s _ _ s' l b step other fit = absurd step

-- ---- its end

-- of the task whose slice has returned no loan fits
returned_unfit : (l : Lent) (s : BoardState) (t : Task) (s' : BoardState) → IsBoard s → task_in l.slot s.tasks ≡ Some t
    → Returns s (Some t) s' → Fits l s'.tasks → ⊥
returned_unfit l s t s' b there back fit =
    let us = change_task back.0 s.tasks in
    let at : task_in l.slot us ≡ Some back.0 =
    changed_in back.0 t l.slot s.tasks b.ids there (sym (ap (λ (x : Task). x.id) back.1.advances)) in
    idle_unfit l back.0
    (own_task l back.0 us (subst (λ (x : BoardState). Fits l x.tasks) back.2 fit) at)
    (ap (λ (x : Task). x.out) back.1.advances)

pub returns_unfit : (s : BoardState) (s' : BoardState) (l : Lent) → IsBoard s → Fits l s.tasks
    → Step s (event.Return l.id) (answer.Returned true) s' → Fits l s'.tasks → ⊥
returns_unfit s s' l b fit step after =
    let named : (fit.0).id ≡ l.id = sym (ap (λ (x : Lent). x.id) fit.2.0) in
    let at : task_of l.id s.tasks ≡ Some fit.0 =
    ap (λ (x : List ℕ). task_of x s.tasks) (sym named)
    ∙ ap (option_map (λ (e : ℕ × Task). e.1)) (entry_at l.slot fit.0 s.tasks b.ids fit.1) in
    returned_unfit l s fit.0 s' b fit.1 (subst (λ (o : Option Task). Returns s o s') at step) after

pub run_stays : (ts : Entries) (l : Lent) → Fits l ts → Fits (record l { ran = true }) ts
run_stays ts l fit = (fit.0, fit.1, (ap (λ (x : Lent). record x { ran = true }) fit.2.0, fit.2.1))
