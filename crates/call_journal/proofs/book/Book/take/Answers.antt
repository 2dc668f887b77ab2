use Rattle.std.proofs.Common.{true}
use Rattle.task_requests.specs.declared.event.Event.TheVariants as event
use Rattle.task_requests.specs.declared.event.EventReply.TheVariants as answer
use Rattle.call_journal.proofs.DeskLemmas.{names_kept, no_place, taken_fit}
use Rattle.call_journal.proofs.book.Book.take.Goals as goal

pub new-receipt-requires-clause-none : goal.new-receipt-requires-clause-none
new-receipt-requires-clause-none g c =
    no_place c.lend-slip.result c.self.inside.desk g.R.Row.slots c.self.inside.board.state
    c.into_ticket-ticket.result c.args.budget
    c.in_ok-loan.loan c.take.new.self.state c.self.invariant.places c.in_ok-loan.ensures.some c.self.invariant.fit
    c.lend-slip.ensures.none

pub invariant_of-self-2 : goal.invariant_of-self-2
invariant_of-self-2 g c = record {
  replay =
      c.replays_go_on.ensures.slice c.self.inside.seen c.self.inside.board.state
      (event.Take c.in_ok-loan.loan.id c.args.budget) (answer.Taken true) c.take.new.self.state
      c.self.invariant.replay tt c.in_ok-loan.ensures.step;
  few = c.self.invariant.few;
  total = c.self.invariant.total;
  parts = c.self.invariant.parts;
  seats = c.self.invariant.seats;
  unused = c.self.invariant.unused;
  places =
      names_kept c.lend-slip.result c.into_ticket-ticket.result.slot _ c.self.inside.desk c.lend-slip.new.self
      g.R.Row.slots c.lend-slip.ensures.set c.lend-slip.ensures.same c.self.invariant.places;
  fit =
      taken_fit c.lend-slip.result c.self.inside.desk c.lend-slip.new.self c.self.inside.board.state
      c.into_ticket-ticket.result c.args.budget c.in_ok-loan.loan c.take.new.self.state c.sound.ensures
      c.in_ok-loan.ensures.some c.self.invariant.fit c.lend-slip.ensures.set c.lend-slip.ensures.same;
}
