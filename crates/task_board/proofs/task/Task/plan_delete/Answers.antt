use Rattle.std.proofs.Common.{◌≡◌, true, false, refl, rules}
use Rattle.task_lifecycle.specs.declared.lifecycle.TaskCall.TheVariants as call
use Rattle.task_lifecycle.specs.Lifecycle.{allowed}
use Rattle.task_board.proofs.task.Task.plan_delete.Goals as goal

pub returns-then-allows : goal.returns-then-allows
returns-then-allows c =
    let can : allowed call.Delete c.args.self.now.status ≡ true = search rules in
    (refl, rw can refl, (refl, refl))

pub returns-else-allows : goal.returns-else-allows
returns-else-allows c =
    let cannot : allowed call.Delete c.args.self.now.status ≡ false = search rules in
    (λ h. cc, rw cannot refl)
