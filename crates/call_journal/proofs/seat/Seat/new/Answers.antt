use Rattle.std.proofs.Common.{sym, refl, subst, ◌∙◌, ap}
use Rattle.task_board.specs.BoardState.{empty}
use Rattle.call_journal.specs.Replay.{IsLegal}
use Rattle.call_journal.specs.Seats.{own_calls}
use Rattle.call_journal.proofs.seat.Seat.new.Goals as goal

pub invariant_of-result : goal.invariant_of-result
invariant_of-result g c = (
  c.requires.parts,
  c.requires.amount ∙ sym (ap (own_calls c.args.number) c.none.ensures),
  subst IsLegal (sym c.none.ensures) (empty, refl),
)
