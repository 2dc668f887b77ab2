use Rattle.std.proofs.Common.{subst}
use Rattle.task_board.specs.Inside.Plans.{Plans}
use Rattle.task_board.proofs.EffectLemmas.{question_waits}
use Rattle.task_board.proofs.board.Board.apply.Goals as goal

pub returns-in-Answered-clause-waiting : goal.returns-in-Answered-clause-waiting
returns-in-Answered-clause-waiting c r prepared =
    let b = c.args.self.now in
    let asked = subst (Plans b.state b.room r) c.in-Answered.is prepared in
    question_waits b.state r c.in-Answered.reply b.waiting asked.0 asked.1
