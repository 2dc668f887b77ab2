-- What is checked out at the places of a desk.
use Rattle.std.proofs.Common.{◌≡◌, ◌≢◌, ℕ, zero, suc, List, [], ◌∷◌, ◌⊎◌, true, false, true≢false, is_none, Option, Some, None, is_some, option_and_then, slice_get, slice_set, inl, inr, refl, sym, ap, ◌∙◌, subst}
use Rattle.std.proofs.lemmas.Bool.{and_parts}
use Rattle.std.specs.Prelude.{IfSome, IfNone}
use Rattle.task_requests.specs.declared.request.Request.{Request}
use Rattle.task_requests.specs.declared.event.Event.TheVariants as event
use Rattle.task_requests.specs.declared.event.EventReply.TheVariants as answer
use Rattle.task_board.specs.declared.ticket.Ticket.{Ticket}
use Rattle.task_board.specs.BoardState.{Task, BoardState, task_in}
use Rattle.task_board.specs.Loans.{Lent, Fits}
use Rattle.task_board.specs.Sound.{IsBoard}
use Rattle.task_board.specs.Step.{Answer, Answers, Step}
use Rattle.task_board.specs.Tickets.{Lends}
use Rattle.task_lifecycle.specs.Lifecycle.{is_running}
use Rattle.task_board.proofs.EntryLemmas.{by_slot}
use Rattle.task_board.proofs.LoanStays.{answers_stay, lends_fits, lends_stays, one_slot, steps_stay, run_stays}
use Rattle.call_journal.specs.Desks.{Spot, spot_names, lent_at}
use Rattle.call_journal.specs.Inside.Desks.{AllFit, IsSetAt}

none_not_some : {X : Type 0} (x : X) → None ≡ Some x → ⊥
none_not_some x h = cc

some_one : {X : Type 0} (x y : X) → Some x ≡ Some y → x ≡ y
some_one x y h = cc

-- ---- a place is set

names_set : (ps : List Spot) (i : ℕ) (p : Spot) (to : Option Lent) → slice_get ps i ≡ Some p
    → spot_names (slice_set ps i (record p { lent = to })) ≡ spot_names ps
names_set [] i p to at = absurd (none_not_some p at)
names_set (x ∷ ps) zero p to at = ap (λ (y : Spot). y.name ∷ spot_names ps) (sym (some_one x p at))
names_set (x ∷ ps) (suc i) p to at = ap (λ (ns : List ℕ). x.name ∷ ns) (names_set ps i p to at)

there_set : (ps : List Spot) (i : ℕ) (p q : Spot) → slice_get ps i ≡ Some p → slice_get (slice_set ps i q) i ≡ Some q
there_set [] i p q at = absurd (none_not_some p at)
there_set (x ∷ ps) zero p q at = refl
there_set (x ∷ ps) (suc i) p q at = there_set ps i p q at

other_set : (ps : List Spot) (i j : ℕ) (q : Spot) → j ≢ i → slice_get (slice_set ps i q) j ≡ slice_get ps j
other_set [] i j q other = refl
other_set (x ∷ ps) zero zero q other = absurd (other refl)
other_set (x ∷ ps) zero (suc j) q other = refl
other_set (x ∷ ps) (suc i) zero q other = refl
other_set (x ∷ ps) (suc i) (suc j) q other = other_set ps i j q (λ e. other (ap suc e))

abbrev lent_of : Option Spot → Option Lent
lent_of o = option_and_then (λ (p : Spot). p.lent) o

set_at : (ps : List Spot) (i : ℕ) (p : Spot) (to : Option Lent) → slice_get ps i ≡ Some p
    → IsSetAt i to ps (slice_set ps i (record p { lent = to }))
set_at ps i p to at = record {
  names = names_set ps i p to at;
  there = ap lent_of (there_set ps i p (record p { lent = to }) at);
  others = λ j other. ap lent_of (other_set ps i j (record p { lent = to }) other);
}

pub is_set :
    (ps : List Spot) (i : ℕ) (p q : Spot) (to : Option Lent) → slice_get ps i ≡ Some p → q ≡ record p { lent = to }
    → IsSetAt i to ps (slice_set ps i q)
is_set ps i p q to at is = subst (λ (x : Spot). IsSetAt i to ps (slice_set ps i x)) (sym is) (set_at ps i p to at)

pub lent_is : (ps : List Spot) (i : ℕ) (p : Spot) → slice_get ps i ≡ Some p → lent_at i ps ≡ p.lent
lent_is ps i p at = ap lent_of at

pub lent_set : {S : Type 0} (A B : S → Type 0) (r : Option S) (ps : List Spot) (i : ℕ) (p q : Spot) (to : Option Lent)
    → slice_get ps i ≡ Some p → IfSome r (λ s. A s × B s × (q ≡ record p { lent = to }))
    → IfSome r (λ s. IsSetAt i to ps (slice_set ps i q))
lent_set A B None ps i p q to at is = tt
lent_set A B (Some s) ps i p q to at is = is_set ps i p q to at is.2

pub lent_there : {S : Type 0} (A : Type 0) (r : Option S) (ps : List Spot) (i : ℕ) (p : Spot) → slice_get ps i ≡ Some p
    → IfNone r (is_some p.lent ≡ true) → IfNone r (A ⊎ (is_some (lent_at i ps) ≡ true))
lent_there A None ps i p at is = inr (ap is_some (lent_is ps i p at) ∙ is)
lent_there A (Some s) ps i p at is = tt

-- ---- a new desk

-- ---- what fits

pub answered_fit :
    (desk : List Spot) (s : BoardState) (r : Request) (a : Answer) (s' : BoardState) → IsBoard s → Answers s r a s'
    → AllFit desk s.tasks → AllFit desk s'.tasks
answered_fit desk s r a s' b is all i l at = ((all i l at).0, answers_stay s r a s' l b is (all i l at).1)

pub names_kept : {S : Type 0} (r : Option S) (slot : ℕ) (to : Option Lent) (ps qs : List Spot) (names : List ℕ)
    → IfSome r (λ x. IsSetAt slot to ps qs) → IfNone r (qs ≡ ps) → spot_names ps ≡ names → spot_names qs ≡ names
names_kept None slot to ps qs names set same is = ap spot_names same ∙ is
names_kept (Some x) slot to ps qs names set same is = set.names ∙ is

-- a machine is checked out

taken_fit_set :
    (ps qs : List Spot) (s : BoardState) (ticket : Ticket) (budget : ℕ) (l : Lent) (s' : BoardState) → IsBoard s
    → Lends s ticket budget l s' → AllFit ps s.tasks → IsSetAt ticket.slot (Some l) ps qs → AllFit qs s'.tasks
taken_fit_set ps qs s ticket budget l s' b is all set i m at =
    by_slot i ticket.slot
    (λ y same.
    let own : l ≡ m = some_one l m (sym set.there ∙ (ap (λ (k : ℕ). lent_at k qs) (sym same) ∙ at)) in (
      sym (ap (λ (x : Lent). x.slot) own) ∙ (ap (λ (x : Lent). x.slot) is.loan ∙ sym same),
      subst (λ (x : Lent). Fits x s'.tasks) own (lends_fits s ticket budget l s' b is),
    ))
    (λ n other.
    let was = all i m (sym (set.others i other) ∙ at) in
    (was.0, lends_stays s ticket budget l s' m b is was.1))

pub taken_fit :
    {S : Type 0} (r : Option S) (ps qs : List Spot) (s : BoardState) (ticket : Ticket) (budget : ℕ) (l : Lent)
    (s' : BoardState) → IsBoard s → Lends s ticket budget l s' → AllFit ps s.tasks
    → IfSome r (λ x. IsSetAt ticket.slot (Some l) ps qs) → IfNone r (qs ≡ ps) → AllFit qs s'.tasks
taken_fit None ps qs s ticket budget l s' b is all set same = λ i m at.
    let was = all i m (subst (λ (ds : List Spot). lent_at i ds ≡ Some m) same at) in
    (was.0, lends_stays s ticket budget l s' m b is was.1)
taken_fit (Some x) ps qs s ticket budget l s' b is all set same = taken_fit_set ps qs s ticket budget l s' b is all set

-- no place has a machine of a task that can be lent

some_lent : (o : Option Lent) → is_some o ≡ true → (l : Lent) × (o ≡ Some l)
some_lent None h = absurd (true≢false (sym h))
some_lent (Some l) h = (l, refl)

none_is : (o : Option ℕ) (n : ℕ) → is_none o ≡ true → o ≡ Some n → ⊥
none_is None n h e = none_not_some n e
none_is (Some k) n h e = true≢false (sym h)

not_lent : (s : BoardState) (ticket : Ticket) (budget : ℕ) (l m : Lent) (s' : BoardState) → Lends s ticket budget l s'
    → m.slot ≡ ticket.slot → Fits m s.tasks → ⊥
not_lent s ticket budget l m s' is slot fit =
    let same : fit.0 ≡ is.task =
    some_one fit.0 is.task (sym fit.1 ∙ (ap (λ (k : ℕ). task_in k s.tasks) slot ∙ is.can.there)) in
    let idle = (and_parts (is_running (is.task).status) (is_none (is.task).out) is.can.ready).1 in
    none_is (is.task).out m.budget idle (subst (λ (t : Task). t.out ≡ Some m.budget) same fit.2.1)

pub no_place :
    {S : Type 0} (r : Option S) (ps : List Spot) (names : List ℕ) (s : BoardState) (ticket : Ticket) (budget : ℕ)
    (l : Lent) (s' : BoardState) → spot_names ps ≡ names → Lends s ticket budget l s' → AllFit ps s.tasks
    → IfNone r ((slice_get (spot_names ps) ticket.slot ≡ None) ⊎ (is_some (lent_at ticket.slot ps) ≡ true))
    → IfNone r (slice_get names ticket.slot ≡ None)
no_place (Some x) ps names s ticket budget l s' same is all none = tt
no_place None ps names s ticket budget l s' same is all (inl none) =
    subst (λ (ns : List ℕ). slice_get ns ticket.slot ≡ None) same none
no_place None ps names s ticket budget l s' same is all (inr out) =
    let m = some_lent (lent_at ticket.slot ps) out in
    let fit = all ticket.slot m.0 m.1 in
    absurd (not_lent s ticket budget l m.0 s' is fit.0 fit.1)

-- a machine comes back

pub known_fits :
    (ps : List Spot) (s : BoardState) (slot : ℕ) (l m : Lent) → AllFit ps s.tasks → lent_at slot ps ≡ Some m
    → l ≡ record m { ran = true } → Fits l s.tasks
known_fits ps s slot l m all at is =
    subst (λ (x : Lent). Fits x s.tasks) (sym is) (run_stays s.tasks m (all slot m at).1)

returned_fit_by : (ps qs : List Spot) (s : BoardState) (l : Lent) (s' : BoardState) → IsBoard s → Fits l s.tasks
    → Step s (event.Return l.id) (answer.Returned true) s' → AllFit ps s.tasks → lent_at l.slot qs ≡ None
    → ((i : ℕ) → i ≢ l.slot → lent_at i qs ≡ lent_at i ps) → AllFit qs s'.tasks
returned_fit_by ps qs s l s' b fit step all none others i m at =
    by_slot i l.slot
    (λ y same. absurd (none_not_some m (sym none ∙ (ap (λ (k : ℕ). lent_at k qs) (sym same) ∙ at))))
    (λ n other.
    let was = all i m (sym (others i other) ∙ at) in (
      was.0,
      steps_stay s (event.Return l.id) (answer.Returned true) s' m b step
          (λ e.
          let ids : m.id ≡ l.id = cc in
          other (sym was.0 ∙ one_slot s m l b was.1 fit ids)) was.1,
    ))

pub returned_fit : (ps qs : List Spot) (s : BoardState) (l m : Lent) (s' : BoardState) → IsBoard s → Fits l s.tasks
    → Step s (event.Return l.id) (answer.Returned true) s' → AllFit ps s.tasks → l ≡ record m { ran = true }
    → IsSetAt m.slot None ps qs → AllFit qs s'.tasks
returned_fit ps qs s l m s' b fit step all is set =
    let slot : l.slot ≡ m.slot = ap (λ (x : Lent). x.slot) is in
    returned_fit_by ps qs s l s' b fit step all (ap (λ (k : ℕ). lent_at k qs) slot ∙ set.there)
    (λ i other. set.others i (λ e. other (e ∙ sym slot)))

-- or one that was not of this desk
pub other_fit : (ps : List Spot) (s : BoardState) (l m : Lent) (s' : BoardState) → IsBoard s
    → (Fits l s.tasks → Step s (event.Return l.id) (answer.Returned true) s') → ((Fits l s.tasks → ⊥) → s' ≡ s)
    → Fits l s.tasks ⊎ (Fits l s.tasks → ⊥) → AllFit ps s.tasks → l ≡ record m { ran = true }
    → lent_at m.slot ps ≡ None → AllFit ps s'.tasks
other_fit ps s l m s' b step unfit (inl fit) all is none =
    returned_fit_by ps ps s l s' b fit (step fit) all
    (ap (λ (x : Lent). lent_at x.slot ps) is ∙ none) (λ i other. refl)
other_fit ps s l m s' b step unfit (inr not) all is none =
    subst (λ (x : BoardState). AllFit ps x.tasks) (sym (unfit not)) all
