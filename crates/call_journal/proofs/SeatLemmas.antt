-- How many calls of a history are of one seat.
use Rattle.std.proofs.Common.{◌≡◌, ℕ, zero, suc, ◌+◌, ◌≤◌, ◌==◌, List, [], ◌∷◌, ◌++◌, length, Bool, cond, Some, true, false, refl, sym, ap, ◌∙◌, arith}
use Rattle.std.specs.Prelude.{slice_get}
use Rattle.std.proofs.lemmas.List.Sums.{sum_by-append, sum_by-cons}
use Rattle.std.proofs.lemmas.Bool.Decides.{nat_tests}
use Rattle.task_board.proofs.EntryLemmas.{some_is}
use Rattle.std.proofs.lemmas.List.{append_assoc}
use Rattle.task_requests.specs.declared.request.Request.{Request}
use Rattle.task_board.specs.Step.{Answer}
use Rattle.call_journal.specs.declared.entry.Entry.{Entry}
use Rattle.call_journal.specs.Fronts.{Begins}
use Rattle.call_journal.specs.Seats.{Known, Extends, own_calls}
use Rattle.call_journal.specs.Inside.Calls.{EndsWithCall}

-- where no entry after a front is of the seat, none of the rest is
pub none_own : (n : ℕ) (front rest : List Entry)
    → ((k : ℕ) → (e : Entry) → length front ≤ k → slice_get (front ++ rest) k ≡ Some e → (e.seat == n) ≡ false)
    → own_calls n rest ≡ 0
none_own n [] [] f = refl
none_own n [] (e ∷ rest) f =
    let no = f 0 e (omega arith) refl in
    let r = none_own n [] rest (λ k x le p. f (suc k) x (omega arith) p) in
    sum_by-cons _ e rest ∙ rw (no, r) refl
none_own n (x ∷ front) rest f = none_own n front rest (λ k e le p. f (suc k) e (omega arith) p)

counted : (b : Bool) (m : ℕ) → b ≡ true → cond b 1 0 + m ≡ 0 → ⊥
counted true m h e = omega (arith, e)
counted false m h e = cc

-- where one after it is, the rest has a call of the seat
pub own_there :
    (n : ℕ) (front rest : List Entry) (k : ℕ) (e : Entry) → length front ≤ k → slice_get (front ++ rest) k ≡ Some e
    → (e.seat == n) ≡ true → own_calls n rest ≡ 0 → ⊥
own_there n [] [] k e le p same none = cc
own_there n [] (x ∷ rest) zero e le p same none =
    let first : (x.seat == n) ≡ true = ap (λ (y : Entry). y.seat == n) (some_is x e p) ∙ same in
    counted (x.seat == n) (own_calls n rest) first (sym (sum_by-cons _ x rest) ∙ none)
own_there n [] (x ∷ rest) (suc k) e le p same none =
    let count = sym (sum_by-cons _ x rest) ∙ none in
    own_there n [] rest k e (omega arith) p same (omega (arith, count))
own_there n (x ∷ front) rest zero e le p same none = absurd (omega (arith, le))
own_there n (x ∷ front) rest (suc k) e le p same none = own_there n front rest k e (omega (arith, le)) p same none

pub one_more : (n : ℕ) (history journal : List Entry) → EndsWithCall n history journal
    → own_calls n journal ≡ own_calls n history + 1
one_more n history journal h =
    let e = h.entry in
    let on = h.on in
    let a : own_calls n (h.before ++ e ∷ []) ≡ own_calls n h.before + own_calls n (e ∷ []) =
    sum_by-append _ h.before (e ∷ []) in
    let b : own_calls n (history ++ on.rest) ≡ own_calls n history + own_calls n on.rest =
    sum_by-append _ history on.rest in
    let seat = h.seat in
    let yes : (e.seat == n) ≡ true = grind (arith, nat_tests) in
    let one : own_calls n (e ∷ []) ≡ 1 = rw yes refl in
    let c = ap (own_calls n) on.joins in
    let d = ap (own_calls n) h.is in
    omega (arith, a, b, one, c, d, on.none)

-- ---- a call that was journalled

module _ (was now : Known) (r : Request) (a : Answer) (e : Extends was now r a) where
  pub own_more : own_calls was.number now.history ≡ own_calls was.number was.history + 1
  own_more =
      one_more was.number was.history now.history
      (record { before = e.before; entry = e.entry; is = e.ends; seat = e.seat; on = e.on })

  pub begins_so : Begins was.history now.history
  begins_so = (
    e.on.rest ++ e.entry ∷ [],
    sym (append_assoc was.history e.on.rest (e.entry ∷ []))
        ∙ (ap (λ (h : List Entry). h ++ e.entry ∷ []) e.on.joins ∙ sym e.ends),
  )
