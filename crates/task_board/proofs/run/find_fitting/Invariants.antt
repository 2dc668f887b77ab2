use Rattle.std.proofs.Common.{take}
use Rattle.task_board.specs.Inside.Covers.{NoneFits}
use Rattle.task_board.proofs.run.find_fitting.Given as goal

-- no loan before fits
abbrev pub invariant-loop-i : goal.invariant-loop-i
invariant-loop-i l = NoneFits l.board.state.tasks l.slot (take l.i l.loans)
