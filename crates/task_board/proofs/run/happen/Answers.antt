use Rattle.task_board.proofs.RunLemmas.{call_covered}
use Rattle.task_board.proofs.run.happen.Goals as goal

pub returns-in-Call-clause-covered : goal.returns-in-Call-clause-covered
returns-in-Call-clause-covered c =
    call_covered c.args.loans.now.items c.args.board.now.state c.in-Call.request c.call.result c.call.new.self.state
    c.sound.ensures c.call.ensures.answers c.call.ensures.no_memory c.requires
