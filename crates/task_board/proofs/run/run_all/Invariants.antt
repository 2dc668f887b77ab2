use Rattle.task_board.specs.Run.{Run}
use Rattle.task_board.specs.Inside.Covers.{Covered}
use Rattle.task_board.proofs.run.run_all.Given as goal

abbrev pub invariant-loop-event : goal.invariant-loop-event
invariant-loop-event l = record {
  run : Run l.fn.board.state l.yielded l.replies.items l.board.state;
  covered : Covered l.loans.items l.board.state.tasks;
}
