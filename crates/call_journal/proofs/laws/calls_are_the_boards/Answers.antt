use Rattle.call_journal.proofs.laws.calls_are_the_boards.Goals as goal

pub returns-clause-board : goal.returns-clause-board
returns-clause-board c old new was now r a h = h.answers

pub returns-clause-journal : goal.returns-clause-journal
returns-clause-journal c old new was now r a h = (h.journal, h.seen, h.total)

pub returns-clause-waiting : goal.returns-clause-waiting
returns-clause-waiting c old new was now r a h = h.waiting

pub returns-clause-same : goal.returns-clause-same
returns-clause-same c old new was now r a h = (h.closed, h.seats)

pub returns-clause-seat : goal.returns-clause-seat
returns-clause-seat c old new was now r a h = h.seat
