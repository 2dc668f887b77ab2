use Rattle.std.proofs.Common.{◌≡◌, true, false, refl, rules}
use Rattle.task_lifecycle.specs.declared.lifecycle.TaskCall.TheVariants as call
use Rattle.task_lifecycle.specs.Lifecycle.{allowed}
use Rattle.task_board.specs.Refusals.{is_step}
use Rattle.task_board.proofs.task.Task.plan_step.Goals as goal

pub returns-then-not-allows : goal.returns-then-not-allows
returns-then-not-allows c =
    let cannot : allowed call.Step c.args.self.now.status ≡ false = search rules in
    (λ h. cc, rw cannot refl)

pub returns-then-is_step : goal.returns-then-is_step
returns-then-is_step c =
    let can : allowed call.Step c.args.self.now.status ≡ true = search rules in
    let fits : is_step c.args.count ≡ true = search rules in
    (refl, rw (can, fits) refl, (refl, refl))

pub returns-else-is_step : goal.returns-else-is_step
returns-else-is_step c =
    let can : allowed call.Step c.args.self.now.status ≡ true = search rules in
    let off : is_step c.args.count ≡ false = search rules in
    (λ h. cc, rw (can, off) refl)
