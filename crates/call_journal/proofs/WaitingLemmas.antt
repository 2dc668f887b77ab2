-- The task that is lent of those that wait is the one with the id that was asked for.
use Rattle.std.proofs.Common.{◌≡◌, ◌∙◌, ℕ, List, Bool, true, false, Option, Some, None, refl, sym, ap}
use Rattle.std.specs.Prelude.{if◌then◌else◌, option_map, option_and_then, IfSome}
use Rattle.task_board.specs.declared.ticket.Ticket.{Ticket}
use Rattle.task_board.specs.BoardState.{Task, BoardState, task_in, entry_of}
use Rattle.task_board.specs.Loans.{Lent}
use Rattle.task_board.specs.Sound.{AreRising, slots_of}
use Rattle.task_board.specs.Tickets.{ticket_to, Lends}
use Rattle.task_board.specs.Waiting.{is_waiting, waiting_ticket}
use Rattle.task_board.proofs.EntryLemmas.{none_is_not, some_is, named, in_slot}

module _ (ws : List Ticket) (t : Ticket) where
  if_it_waits : (u : Ticket) (b : Bool) → (if b then Some u else None) ≡ Some t → u ≡ t
  if_it_waits u true h = some_is u t h
  if_it_waits u false h = absurd (none_is_not t h)

  of_entry : (o : Option (ℕ × Task))
      → option_and_then (λ (u : Ticket). if is_waiting u ws then Some u else None) (option_map ticket_to o) ≡ Some t
      → (e : ℕ × Task) × (o ≡ Some e) × (ticket_to e ≡ t)
  of_entry None h = absurd (none_is_not t h)
  of_entry (Some e) h = (e, refl, if_it_waits (ticket_to e) (is_waiting (ticket_to e) ws) h)

lent_by_id : (s s' : BoardState) (id : List ℕ) (ws : List Ticket) (t : Ticket) (budget : ℕ) (l : Lent)
    → AreRising (slots_of s.tasks) → waiting_ticket id s.tasks ws ≡ Some t → Lends s t budget l s' → l.id ≡ id
lent_by_id s s' id ws t budget l rising waits lends =
    let own = of_entry ws t (entry_of id s.tasks) waits in
    let there : Some lends.task ≡ Some own.0.1 =
    sym lends.can.there
    ∙ (ap (λ (u : Ticket). task_in u.slot s.tasks) (sym own.2) ∙ in_slot id own.0 s.tasks rising own.1) in
    ap (λ (x : Lent). x.id) lends.loan
    ∙ (ap (λ (x : Task). x.id) (some_is lends.task own.0.1 there) ∙ named id s.tasks own.0 own.1)

pub lent_if_any :
    {A : Type 0} (loan_in : A → Lent) (o : Option A) (s s' : BoardState) (id : List ℕ) (ws : List Ticket) (t : Ticket)
    (budget : ℕ) → AreRising (slots_of s.tasks) → waiting_ticket id s.tasks ws ≡ Some t
    → IfSome o (λ a. Lends s t budget (loan_in a) s') → IfSome o (λ a. (loan_in a).id ≡ id)
lent_if_any loan_in None s s' id ws t budget rising waits lends = tt
lent_if_any loan_in (Some a) s s' id ws t budget rising waits lends =
    lent_by_id s s' id ws t budget (loan_in a) rising waits lends
