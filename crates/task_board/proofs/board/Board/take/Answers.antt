use Rattle.std.proofs.Common.{◌≡◌, ◌≢◌, ◌∙◌, Some, None, true≢false, Option, IfNone, sym, ap, subst, rules}
use Rattle.slab.specs.Slab.{get}
use Rattle.task_board.specs.BoardState.{Task}
use Rattle.task_board.specs.BoardValue.{BoardValue}
use Rattle.task_board.specs.Loans.{Lent}
use Rattle.task_board.specs.Tasks.{can_lend}
use Rattle.task_board.specs.Tickets.{CanLend, Lends}
use Rattle.task_board.specs.Step.{taken}
use Rattle.task_board.specs.Inside.Shown.{board_state_of}
use Rattle.task_board.proofs.BoardLemmas.{with_write, nothing_there, same_there, written_waits, lent_from, lends_keeps_sound, lends_is_taken}
use Rattle.task_board.proofs.board.Board.take.Goals as goal

pub returns-in_err-task-clause-none : goal.returns-in_err-task-clause-none
returns-in_err-task-clause-none c =
    let b = c.self.inside in
    let none : get b.tasks c.args.ticket.slot ≡ None = search rules in
    let P : BoardValue → Type 0 = λ v. (t : Task) → CanLend c.args.ticket v.state.tasks t → ⊥ in
    subst (λ (r : Option Lent). IfNone r (P c.args.self.now)) (sym c.from_residual.ensures)
    (subst P c.self.view_is (λ t can. nothing_there b c.args.ticket.slot t none can.there))

pub returns-then-incarnation-ticket-clause-none : goal.returns-then-incarnation-ticket-clause-none
returns-then-incarnation-ticket-clause-none c t can =
    let b = c.self.inside in
    let at : get b.tasks c.args.ticket.slot ≡ Some c.in_ok-task.task.now = search rules in
    let other : c.in_ok-task.task.now.incarnation ≢ c.args.ticket.incarnation = search rules in
    let P : BoardValue → Type 0 = λ v. CanLend c.args.ticket v.state.tasks t in
    let own = subst P (sym c.self.view_is) can in
    let same = same_there b c.args.ticket.slot c.in_ok-task.task.now t at own.there in
    other (ap (λ (x : Task). x.incarnation) same ∙ own.of)

pub returns-in_err-loan-clause-none : goal.returns-in_err-loan-clause-none
returns-in_err-loan-clause-none c =
    let b = c.self.inside in
    let at : get b.tasks c.args.ticket.slot ≡ Some c.in_ok-task.task.now = search rules in
    let P : BoardValue → Type 0 = λ v. (t : Task) → CanLend c.args.ticket v.state.tasks t → ⊥ in
    let cannot = c.in_err-loan.ensures.none.0 in
    subst (λ (r : Option Lent). IfNone r (P c.args.self.now)) (sym c.from_residual-in_err-loan.ensures)
    (subst P c.self.view_is (λ t can.
    let same = same_there b c.args.ticket.slot c.in_ok-task.task.now t at can.there in
    true≢false (sym can.ready ∙ (ap can_lend (sym same) ∙ cannot))))

pub invariant_of-self-2 : goal.invariant_of-self-2
invariant_of-self-2 c =
    let b = c.self.inside in
    let at : get b.tasks c.args.ticket.slot ≡ Some c.in_ok-task.task.now = search rules in
    let of : c.in_ok-task.task.now.incarnation ≡ c.args.ticket.incarnation = search rules in
    let done = c.in_ok-loan.ensures.some in
    let is =
    lent_from b c.args.ticket c.args.budget c.in_ok-task.task.now c.lend.new.self c.in_ok-loan.loan
    c.self.invariant.sound at of done.0 done.1 done.2 in
    record {
      opened = c.self.invariant.opened;
      tasks_room = c.self.invariant.tasks_room;
      waiting =
          written_waits b c.args.ticket.slot c.in_ok-task.task.now c.lend.new.self c.self.invariant.sound
          c.self.invariant.waiting at (ap (λ (u : Task). u.id) (sym done.2))
          (ap (λ (u : Task). u.incarnation) done.2);
      sound =
          lends_keeps_sound (board_state_of b) c.args.ticket c.args.budget c.in_ok-loan.loan
          (board_state_of (with_write b c.args.ticket.slot c.lend.new.self)) c.self.invariant.sound c.requires is;
    }

pub returns-clause-some : goal.returns-clause-some
returns-clause-some c =
    let b = c.self.inside in
    let at : get b.tasks c.args.ticket.slot ≡ Some c.in_ok-task.task.now = search rules in
    let of : c.in_ok-task.task.now.incarnation ≡ c.args.ticket.incarnation = search rules in
    let done = c.in_ok-loan.ensures.some in
    let is =
    lent_from b c.args.ticket c.args.budget c.in_ok-task.task.now c.lend.new.self c.in_ok-loan.loan
    c.self.invariant.sound at of done.0 done.1 done.2 in
    let P : BoardValue → Type 0 =
    λ v. Lends v.state c.args.ticket c.args.budget c.in_ok-loan.loan
    (board_state_of (with_write b c.args.ticket.slot c.lend.new.self)) in
    subst P c.self.view_is is

pub returns-clause-step : goal.returns-clause-step
returns-clause-step c =
    let b = c.self.inside in
    let at : get b.tasks c.args.ticket.slot ≡ Some c.in_ok-task.task.now = search rules in
    let of : c.in_ok-task.task.now.incarnation ≡ c.args.ticket.incarnation = search rules in
    let done = c.in_ok-loan.ensures.some in
    let is =
    lent_from b c.args.ticket c.args.budget c.in_ok-task.task.now c.lend.new.self c.in_ok-loan.loan
    c.self.invariant.sound at of done.0 done.1 done.2 in
    let s' = board_state_of (with_write b c.args.ticket.slot c.lend.new.self) in
    let P : BoardValue → Type 0 = λ v. taken v.state c.in_ok-loan.loan.id c.args.budget ≡ Some s' in
    subst P c.self.view_is
    (lends_is_taken (board_state_of b) c.args.ticket c.args.budget c.in_ok-loan.loan s'
    c.self.invariant.sound c.requires is)
