use Rattle.std.proofs.Common.{subst}
use Rattle.task_board.specs.Loans.{Lent}
use Rattle.task_board.specs.Inside.Covers.{IsFitting}
use Rattle.task_board.proofs.LoanCover.{none_more}
use Rattle.task_board.proofs.run.find_fitting.Goals as goal

pub loop-i-preserved : goal.loop-i-preserved
loop-i-preserved c =
    let off = c.if-is_fitting.false in
    none_more c.args.board.now.state.tasks c.args.slot c.args.loans.now c.loop-i.i c.index-loans-i.result
    c.loop-i-test.true c.loop-i.invariant
    (subst (λ (l : Lent). IsFitting c.args.board.now.state.tasks c.args.slot l → ⊥) c.index-loans-i.is
    (λ fit. let on = c.is_fitting.ensures.1 fit in cc))
