-- What contracts see of boards, tasks and loans.
use Rattle.std.specs.Prelude.{ℕ, false}
use Rattle.std.specs.Arc.{arc_value}
use Rattle.task_board.specs.declared.checkout.Checkout.{Checkout}
use Rattle.task_board.specs.declared.loan.Loan.TheInside as loan
use Rattle.task_board.specs.declared.task.Task.TheInside as task
use Rattle.task_board.specs.declared.board.Board.TheInside as board
use Rattle.slab.specs.Slab.{entries}
use Rattle.task_board.specs.BoardState.{Task, BoardState}
use Rattle.task_board.specs.BoardValue.{BoardValue}
use Rattle.task_board.specs.Loans.{Lent}

-- a loan that is made with this
abbrev pub lent_with : (slot incarnation turns budget : ℕ) → Checkout → Lent
lent_with slot incarnation turns budget c = record {
  slot = slot;
  incarnation = incarnation;
  id = (arc_value c.shared).id;
  bytes = arc_value (arc_value c.shared).bytes;
  «module» = (arc_value c.shared).flat;
  process = (arc_value c.shared).process;
  turns = turns;
  breaks = arc_value c.breaks;
  budget = budget;
  ran = false;
}

abbrev pub lent_of : loan.Inside → Lent
lent_of l = record (lent_with l.slot l.incarnation l.turns l.budget l.checkout) { ran = l.ran }

abbrev pub task_of : task.Inside → Task
task_of t = record {
  id = (arc_value t.shared).id;
  incarnation = t.incarnation;
  bytes = arc_value (arc_value t.shared).bytes;
  «module» = (arc_value t.shared).flat;
  process = (arc_value t.shared).process;
  turns = t.turns;
  status = t.status;
  breaks = arc_value t.breaks;
  out = t.out;
  signal = t.signal;
  end = t.end;
}

abbrev pub board_state_of : board.Inside → BoardState
board_state_of b = record { store = b.store.state; tasks = entries b.tasks; creates = b.creates }

abbrev pub board_of : board.Inside → BoardValue
board_of b = record {
  state = board_state_of b;
  waiting = b.waiting;
  room = record { contents = b.store.content_room; leases = b.store.lease_room };
}
