use Rattle.call_journal.proofs.DueLemmas.{never_busy}
use Rattle.call_journal.proofs.book.Book.call_due.Goals as goal

pub returns-clause-answered : goal.returns-clause-answered
returns-clause-answered g c busy =
    never_busy c.args.self.now c.call.new.self c.args.seat.now c.call.new.seat c.args.id c.call.result c.requires.due
    c.call.ensures.closed c.call.ensures.full c.call.ensures.called busy
