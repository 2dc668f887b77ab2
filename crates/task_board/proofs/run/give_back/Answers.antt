use Rattle.std.proofs.Common.{◌≡◌, Some, sym, subst, refl, List, ℕ, arith, rules}
use Rattle.task_board.specs.Loans.{Lent}
use Rattle.task_board.specs.BoardState.{task_of}
use Rattle.task_board.specs.Step.{Returns}
use Rattle.task_board.specs.Tickets.{ticket_of}
use Rattle.task_board.specs.Inside.Covers.{NoneFits, FitsAt, Covered}
use Rattle.task_board.proofs.LoanCover.{not_out, fits_within, fits_taken, fits_run, fitting_id, returns_covered}
use Rattle.task_board.proofs.run.give_back.Goals as goal

pub returns-in_default-find_fitting-clause-returned : goal.returns-in_default-find_fitting-clause-returned
returns-in_default-find_fitting-clause-returned c =
    let s = c.args.board.now.state in
    let ticket : ticket_of c.args.id s.tasks ≡ Some c.in-Some.ticket = search rules in
    let none =
    subst (λ (ls : List Lent). NoneFits s.tasks c.in-Some.ticket.slot ls) c.as_slice.ensures.value
    c.in_default-find_fitting.ensures.none in
    (not_out s c.args.id c.in-Some.ticket c.args.loans.now.items c.sound.ensures ticket none c.requires, refl)

pub remove-loan-requires : goal.remove-loan-requires
remove-loan-requires c =
    let s = c.args.board.now.state in
    let at =
    subst (λ (ls : List Lent). FitsAt s.tasks c.in-Some.ticket.slot ls c.in-Some-find_fitting.i)
    c.as_slice.ensures.value c.in-Some-find_fitting.ensures.some in
    let within = fits_within s.tasks c.in-Some.ticket.slot c.args.loans.now.items c.in-Some-find_fitting.i at in
    omega (arith, within, c.args.loans.now.ok.0)

pub receive-again-requires-clause-fits : goal.receive-again-requires-clause-fits
receive-again-requires-clause-fits c =
    let s = c.args.board.now.state in
    let at =
    subst (λ (ls : List Lent). FitsAt s.tasks c.in-Some.ticket.slot ls c.in-Some-find_fitting.i)
    c.as_slice.ensures.value c.in-Some-find_fitting.ensures.some in
    let taken =
    fits_taken s.tasks c.in-Some.ticket.slot c.args.loans.now.items c.in-Some-find_fitting.i c.remove-loan.result at
    c.remove-loan.ensures.value in
    (fits_run s.tasks c.in-Some.ticket.slot c.remove-loan.result c.run.new.self c.run.ensures taken.1).1

pub returns-clause-returned : goal.returns-clause-returned
returns-clause-returned c =
    let s = c.args.board.now.state in
    let ticket : ticket_of c.args.id s.tasks ≡ Some c.in-Some.ticket = search rules in
    let at =
    subst (λ (ls : List Lent). FitsAt s.tasks c.in-Some.ticket.slot ls c.in-Some-find_fitting.i)
    c.as_slice.ensures.value c.in-Some-find_fitting.ensures.some in
    let taken =
    fits_taken s.tasks c.in-Some.ticket.slot c.args.loans.now.items c.in-Some-find_fitting.i c.remove-loan.result at
    c.remove-loan.ensures.value in
    let ran = fits_run s.tasks c.in-Some.ticket.slot c.remove-loan.result c.run.new.self c.run.ensures taken.1 in
    let of = fitting_id s c.args.id c.in-Some.ticket c.run.new.self c.sound.ensures ticket ran in
    subst (λ (x : List ℕ). Returns s (task_of x s.tasks) c.receive-again.new.self.state) of.own
    c.receive-again.ensures.step

pub returns-clause-covered : goal.returns-clause-covered
returns-clause-covered c =
    let s = c.args.board.now.state in
    let ticket : ticket_of c.args.id s.tasks ≡ Some c.in-Some.ticket = search rules in
    let at =
    subst (λ (ls : List Lent). FitsAt s.tasks c.in-Some.ticket.slot ls c.in-Some-find_fitting.i)
    c.as_slice.ensures.value c.in-Some-find_fitting.ensures.some in
    let taken =
    fits_taken s.tasks c.in-Some.ticket.slot c.args.loans.now.items c.in-Some-find_fitting.i c.remove-loan.result at
    c.remove-loan.ensures.value in
    let ran = fits_run s.tasks c.in-Some.ticket.slot c.remove-loan.result c.run.new.self c.run.ensures taken.1 in
    let mine = fitting_id s c.args.id c.in-Some.ticket c.remove-loan.result c.sound.ensures ticket taken.1 in
    let of = fitting_id s c.args.id c.in-Some.ticket c.run.new.self c.sound.ensures ticket ran in
    let back =
    subst (λ (x : List ℕ). Returns s (task_of x s.tasks) c.receive-again.new.self.state) of.own
    c.receive-again.ensures.step in
    subst (λ (ls : List Lent). Covered ls c.receive-again.new.self.state.tasks) (sym c.remove-loan.ensures.items)
    (returns_covered s c.args.loans.now.items c.in-Some-find_fitting.i c.remove-loan.result mine.task c.args.id
    c.receive-again.new.self.state c.sound.ensures taken.0 mine.there mine.found back c.requires)
