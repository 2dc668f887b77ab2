use Rattle.std.proofs.Common.{List, sym, subst}
use Rattle.task_board.specs.declared.ticket.Ticket.{Ticket}
use Rattle.task_board.specs.Waiting.{AreWaiting}
use Rattle.task_board.specs.Inside.Shown.{board_state_of}
use Rattle.task_board.proofs.WaitingLemmas.{left_without}
use Rattle.task_board.proofs.board.Board.leave.Goals as goal

pub invariant_of-self : goal.invariant_of-self
invariant_of-self c =
    let s = board_state_of c.self.inside in
    let after = left_without s.tasks c.args.ticket c.self.inside.waiting c.self.invariant.waiting in
    record {
      opened = c.self.invariant.opened;
      tasks_room = c.self.invariant.tasks_room;
      sound = c.self.invariant.sound;
      waiting = subst (λ (ws : List Ticket). AreWaiting s.tasks ws) (sym c.leave.ensures) after;
    }
