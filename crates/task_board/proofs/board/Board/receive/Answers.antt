use Rattle.std.proofs.Common.{◌≡◌, ◌∙◌, Some, None, subst, sym, ap, ℕ, rules, option_and_then}
use Rattle.slab.specs.Slab.{get, with_value, entries}
use Rattle.task_board.specs.BoardState.{Task, task_of}
use Rattle.task_board.specs.BoardValue.{BoardValue}
use Rattle.task_board.specs.Loans.{Fits}
use Rattle.task_board.specs.Step.{Returns}
use Rattle.task_board.specs.Tickets.{ticket_in, ticket_if_running}
use Rattle.task_board.specs.Inside.Shown.{board_state_of, board_of}
use Rattle.task_board.proofs.BoardLemmas.{with_write, written_waits, fits_nowhere, fits_here, back_there}
use Rattle.task_board.proofs.board.Board.receive.Goals as goal

pub returns-in_default-clause-step : goal.returns-in_default-clause-step
returns-in_default-clause-step c =
    let none : get c.self.inside.tasks c.args.loan.slot ≡ None = search rules in
    absurd
    (fits_nowhere c.self.inside c.args.loan none
    (subst (λ (v : BoardValue). Fits c.args.loan v.state.tasks) (sym c.self.view_is) c.requires.fits))

pub returns-in_default-clause-ticket : goal.returns-in_default-clause-ticket
returns-in_default-clause-ticket c =
    let none : get c.self.inside.tasks c.args.loan.slot ≡ None = search rules in
    absurd
    (fits_nowhere c.self.inside c.args.loan none
    (subst (λ (v : BoardValue). Fits c.args.loan v.state.tasks) (sym c.self.view_is) c.requires.fits))

pub receive-requires-clause-fits : goal.receive-requires-clause-fits
receive-requires-clause-fits c =
    let here : get c.self.inside.tasks c.args.loan.slot ≡ Some c.in-Some.task.now = search rules in
    fits_here c.self.inside c.args.loan c.in-Some.task.now here
    (subst (λ (v : BoardValue). Fits c.args.loan v.state.tasks) (sym c.self.view_is) c.requires.fits)

pub invariant_of-self-2 : goal.invariant_of-self-2
invariant_of-self-2 c =
    let here : get c.self.inside.tasks c.args.loan.slot ≡ Some c.in-Some.task.now = search rules in
    let fits =
    fits_here c.self.inside c.args.loan c.in-Some.task.now here
    (subst (λ (v : BoardValue). Fits c.args.loan v.state.tasks) (sym c.self.view_is) c.requires.fits) in
    let back =
    back_there c.self.inside c.args.loan c.in-Some.task.now c.receive.new.self c.slices_go_forward.ensures.at_least
    c.slices_stop_first.ensures.not_before c.self.invariant.sound here fits c.receive.ensures in
    record {
      opened = c.self.invariant.opened;
      tasks_room = c.self.invariant.tasks_room;
      waiting =
          subst
          (λ (k : ℕ). Rattle.task_board.specs.Waiting.AreWaiting
          (board_state_of (with_write c.self.inside k c.receive.new.self)).tasks c.self.inside.waiting)
          (sym c.slot-slot.ensures)
          (written_waits c.self.inside c.args.loan.slot c.in-Some.task.now c.receive.new.self c.self.invariant.sound
          c.self.invariant.waiting here (ap (λ (u : Task). u.id) (sym c.receive.ensures))
          (ap (λ (u : Task). u.incarnation) c.receive.ensures));
      sound =
          subst
          (λ (k : ℕ). Rattle.task_board.specs.Sound.IsBoard
          (board_state_of (with_write c.self.inside k c.receive.new.self)))
          (sym c.slot-slot.ensures) back.sound;
    }

pub returns-clause-step : goal.returns-clause-step
returns-clause-step c =
    let here : get c.self.inside.tasks c.args.loan.slot ≡ Some c.in-Some.task.now = search rules in
    let fits =
    fits_here c.self.inside c.args.loan c.in-Some.task.now here
    (subst (λ (v : BoardValue). Fits c.args.loan v.state.tasks) (sym c.self.view_is) c.requires.fits) in
    let back =
    back_there c.self.inside c.args.loan c.in-Some.task.now c.receive.new.self c.slices_go_forward.ensures.at_least
    c.slices_stop_first.ensures.not_before c.self.invariant.sound here fits c.receive.ensures in
    let P : ℕ → BoardValue → Type 0 =
    λ k v. Returns v.state (task_of c.args.loan.id v.state.tasks)
    (board_state_of (with_write c.self.inside k c.receive.new.self)) in
    subst (λ (v : BoardValue). P c.slot-slot.result v) c.self.view_is
    (subst (λ (k : ℕ). P k (board_of c.self.inside)) (sym c.slot-slot.ensures) back.home)

pub returns-clause-ticket : goal.returns-clause-ticket
returns-clause-ticket c =
    let here : get c.self.inside.tasks c.args.loan.slot ≡ Some c.in-Some.task.now = search rules in
    let fits =
    fits_here c.self.inside c.args.loan c.in-Some.task.now here
    (subst (λ (v : BoardValue). Fits c.args.loan v.state.tasks) (sym c.self.view_is) c.requires.fits) in
    let back =
    back_there c.self.inside c.args.loan c.in-Some.task.now c.receive.new.self c.slices_go_forward.ensures.at_least
    c.slices_stop_first.ensures.not_before c.self.invariant.sound here fits c.receive.ensures in
    let P : ℕ → Type 0 =
    λ k. c.ticket.result ≡ ticket_in c.args.loan.slot (entries (with_value c.self.inside.tasks k c.receive.new.self)) in
    let Q : ℕ → Type 0 = λ k. c.ticket.result ≡ ticket_if_running k c.receive.new.self in
    let ticket = subst Q c.slot-slot.ensures c.ticket.ensures in
    subst P (sym c.slot-slot.ensures)
    (ticket ∙ sym (ap (option_and_then (ticket_if_running c.args.loan.slot)) back.there))
