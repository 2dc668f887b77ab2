use Rattle.std.proofs.Common.{◌≡◌, ◌∙◌, true, List, sym, subst}
use Rattle.task_board.specs.declared.ticket.Ticket.{Ticket}
use Rattle.task_board.specs.Waiting.{is_present, AreWaiting}
use Rattle.task_board.specs.Inside.Shown.{board_state_of}
use Rattle.task_board.proofs.WaitingLemmas.{room_to_enter, entered}
use Rattle.task_board.proofs.board.Board.wait_again.Goals as goal

pub enter-requires : goal.enter-requires
enter-requires c free =
    let s = board_state_of c.self.inside in
    let there : is_present s.tasks c.args.ticket ≡ true = sym c.is_present.ensures ∙ c.if-is_present.true in
    room_to_enter s c.self.inside.waiting c.args.ticket c.self.invariant.sound c.self.invariant.waiting there free

pub invariant_of-self : goal.invariant_of-self
invariant_of-self c =
    let s = board_state_of c.self.inside in
    let there : is_present s.tasks c.args.ticket ≡ true = sym c.is_present.ensures ∙ c.if-is_present.true in
    let after = entered s.tasks c.self.inside.waiting c.args.ticket c.self.invariant.waiting there in
    record {
      opened = c.self.invariant.opened;
      tasks_room = c.self.invariant.tasks_room;
      sound = c.self.invariant.sound;
      waiting = subst (λ (ws : List Ticket). AreWaiting s.tasks ws) (sym c.enter.ensures) after;
    }
