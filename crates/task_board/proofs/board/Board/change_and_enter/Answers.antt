use Rattle.std.proofs.Common.{◌≡◌, Some, List, sym, subst, rules}
use Rattle.task_board.specs.declared.ticket.Ticket.{Ticket}
use Rattle.task_board.specs.BoardValue.{BoardValue}
use Rattle.task_board.specs.Tickets.{ticket_in}
use Rattle.task_board.specs.Waiting.{AreWaiting}
use Rattle.task_board.specs.Inside.Shown.{board_state_of}
use Rattle.task_board.proofs.WaitingLemmas.{room_to_enter, running_there, entered}
use Rattle.task_board.proofs.board.Board.change_and_enter.Goals as goal

pub enter-requires : goal.enter-requires
enter-requires c free =
    let s = board_state_of c.self.inside in
    let is : ticket_in c.args.slot c.change-reply.new.self.state.tasks ≡ Some c.in-Some.ticket = search rules in
    let own =
    subst (λ (v : BoardValue). ticket_in c.args.slot v.state.tasks ≡ Some c.in-Some.ticket) (sym c.self.view_is) is
    in
    room_to_enter s c.self.inside.waiting c.in-Some.ticket c.self.invariant.sound c.self.invariant.waiting
    (running_there c.args.slot s.tasks c.in-Some.ticket own) free

pub invariant_of-self : goal.invariant_of-self
invariant_of-self c =
    let s = board_state_of c.self.inside in
    let is : ticket_in c.args.slot c.change-reply.new.self.state.tasks ≡ Some c.in-Some.ticket = search rules in
    let own =
    subst (λ (v : BoardValue). ticket_in c.args.slot v.state.tasks ≡ Some c.in-Some.ticket) (sym c.self.view_is) is
    in
    let after =
    entered s.tasks c.self.inside.waiting c.in-Some.ticket c.self.invariant.waiting
    (running_there c.args.slot s.tasks c.in-Some.ticket own) in
    record {
      opened = c.self.invariant.opened;
      tasks_room = c.self.invariant.tasks_room;
      sound = c.self.invariant.sound;
      waiting = subst (λ (ws : List Ticket). AreWaiting s.tasks ws) (sym c.enter.ensures) after;
    }
