use Rattle.call_journal.proofs.SeatLemmas.{own_more, begins_so}
use Rattle.call_journal.proofs.laws.calls_extend_histories.Goals as goal

pub returns-clause-front : goal.returns-clause-front
returns-clause-front c was now r a e = begins_so was now r a e

pub returns-clause-own : goal.returns-clause-own
returns-clause-own c was now r a e = own_more was now r a e

pub returns-clause-last : goal.returns-clause-last
returns-clause-last c was now r a e = (e.before, e.entry, e.ends, e.seat, e.request, e.answer)

pub returns-clause-seat : goal.returns-clause-seat
returns-clause-seat c was now r a e = (e.number, e.share)
