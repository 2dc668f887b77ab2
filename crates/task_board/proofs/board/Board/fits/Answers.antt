use Rattle.std.proofs.Common.{◌≡◌, ◌↔◌, IsTrue, Some, None, false, subst, rules}
use Rattle.slab.specs.Slab.{get}
use Rattle.task_board.specs.BoardValue.{BoardValue}
use Rattle.task_board.specs.Loans.{Fits}
use Rattle.task_board.proofs.BoardLemmas.{fits_there, fits_nowhere}
use Rattle.task_board.proofs.board.Board.fits.Goals as goal

pub returns-in-Some : goal.returns-in-Some
returns-in-Some c =
    let here : get c.self.inside.tasks c.args.loan.now.slot ≡ Some c.in-Some.task.now = search rules in
    subst (λ (v : BoardValue). IsTrue c.fits.result ↔ Fits c.args.loan.now v.state.tasks) c.self.view_is
    (fits_there c.self.inside c.args.loan.now c.in-Some.task.now c.fits.result here c.fits.ensures)

pub returns-in-None : goal.returns-in-None
returns-in-None c =
    let none : get c.self.inside.tasks c.args.loan.now.slot ≡ None = search rules in
    subst (λ (v : BoardValue). IsTrue false ↔ Fits c.args.loan.now v.state.tasks) c.self.view_is
    (λ h. cc, λ f. absurd (fits_nowhere c.self.inside c.args.loan.now none f))
