use Rattle.std.proofs.Common.{◌≡◌, Some, rules}
use Rattle.task_board.specs.Sound.{AreRising, slots_of}
use Rattle.task_board.specs.Waiting.{waiting_ticket}
use Rattle.call_journal.proofs.WaitingLemmas.{lent_if_any}
use Rattle.call_journal.proofs.book.Book.take_waiting.Goals as goal

pub returns-clause-id : goal.returns-clause-id
returns-clause-id g c =
    let left = c.leave_waiting.new.self in
    let rising : AreRising (slots_of left.board.tasks) = search rules in
    let waits :
    waiting_ticket c.args.id.now left.board.tasks c.args.self.now.waiting ≡ Some c.in_ok-task.task = search rules in
    lent_if_any (λ p. p.0) c.take.result left.board c.take.new.self.board c.args.id.now c.args.self.now.waiting
    c.in_ok-task.task c.args.budget rising waits c.take.ensures.some
