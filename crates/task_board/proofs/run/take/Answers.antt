use Rattle.std.proofs.Common.{◌≡◌, ◌++◌, ◌∷◌, [], Some, sym, subst, ap, List, ℕ, rules}
use Rattle.task_board.specs.Loans.{Lent}
use Rattle.task_board.specs.BoardValue.{BoardValue}
use Rattle.task_board.specs.Tickets.{ticket_of}
use Rattle.task_board.specs.Step.{taken}
use Rattle.task_board.specs.Inside.Covers.{Covered}
use Rattle.task_board.proofs.LoanCover.{not_taken, taken_id, lends_covered}
use Rattle.task_board.proofs.run.take.Goals as goal

pub returns-in_default-take-clause-taken : goal.returns-in_default-take-clause-taken
returns-in_default-take-clause-taken c =
    let s = c.args.board.now.state in
    let ticket : ticket_of c.args.id s.tasks ≡ Some c.in-Some.ticket = search rules in
    let is = c.in_default-take.ensures in (
      not_taken s c.args.id c.in-Some.ticket c.args.budget c.sound.ensures ticket is.none,
      ap (λ (b : BoardValue). b.state) is.same,
    )

pub returns-clause-taken : goal.returns-clause-taken
returns-clause-taken c =
    let s = c.args.board.now.state in
    let ticket : ticket_of c.args.id s.tasks ≡ Some c.in-Some.ticket = search rules in
    let is = c.in-Some-take.ensures in
    let own =
    taken_id s c.args.id c.in-Some.ticket c.args.budget c.in-Some-take.loan c.take.new.self.state c.sound.ensures
    ticket is.some in
    subst (λ (x : List ℕ). taken s x c.args.budget ≡ Some c.take.new.self.state) own is.step

pub returns-clause-covered : goal.returns-clause-covered
returns-clause-covered c covered =
    let more : c.push_reserved.new.self.items ≡ c.args.loans.now.items ++ c.in-Some-take.loan ∷ [] = search rules in
    subst (λ (ls : List Lent). Covered ls c.take.new.self.state.tasks) (sym more)
    (lends_covered c.args.board.now.state c.in-Some.ticket c.args.budget c.in-Some-take.loan c.take.new.self.state
    c.args.loans.now.items c.sound.ensures c.in-Some-take.ensures.some covered)
