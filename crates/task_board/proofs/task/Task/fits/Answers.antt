use Rattle.std.proofs.Common.{◌≡◌, ◌↔◌, IsTrue, Some, subst, rules}
use Rattle.std.specs.Arc.{arc_value}
use Rattle.task_board.specs.BoardState.{Task}
use Rattle.task_board.specs.Loans.{FitsTask}
use Rattle.task_board.specs.declared.checkout.Shared.{Shared}
use Rattle.task_board.specs.Inside.Kept.{SharesWith}
use Rattle.task_board.proofs.TaskInvariant.{fits_shared, same_module}
use Rattle.task_board.proofs.task.Task.fits.Goals as goal

pub returns-then-is_numbered : goal.returns-then-is_numbered
returns-then-is_numbered c =
    let l = c.args.loan.now in
    let t = c.self.inside in
    let numbers : (l.incarnation ≡ t.incarnation) × (l.turns ≡ t.turns) × (t.out ≡ Some l.budget) = search rules in
    let shared =
    subst (λ (s : Shared). IsTrue c.shares.result ↔ SharesWith l s c.deref-then-is_numbered.result.now)
    c.deref.ensures c.shares.ensures.shares in
    let all =
    subst (λ bs. IsTrue c.shares.result ↔ SharesWith l (arc_value t.shared) bs)
    c.deref-then-is_numbered.ensures shared in
    subst (λ (x : Task). IsTrue c.shares.result ↔ FitsTask l x) c.self.view_is
    (fits_shared l t c.shares.result numbers
    (same_module l (arc_value t.shared).flat (arc_value (arc_value t.shared).bytes) (arc_value t.shared).process
    c.spells_one.ensures c.shares.ensures.opens c.self.invariant.0) all)
