use Rattle.std.proofs.Common.{sym, ◌∙◌}
use Rattle.task_board.specs.Inside.Shown.{task_of}
use Rattle.task_board.proofs.TaskInvariant.{idle, loan_kept}
use Rattle.task_board.proofs.task.Task.lend.Goals as goal

pub new-requires : goal.new-requires
new-requires c =
    let is =
    idle (task_of c.self.inside) c.self.inside.checkout c.in_ok-checkout.checkout c.self.invariant
    (sym c.take.ensures.value ∙ c.in_ok-checkout.was) in
    loan_kept (task_of c.self.inside) c.in_ok-checkout.checkout c.args.slot c.args.budget c.self.invariant.0 is
