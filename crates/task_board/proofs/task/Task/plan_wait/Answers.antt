use Rattle.std.proofs.Common.{◌≡◌, true, false, refl, ap, rules}
use Rattle.task_lifecycle.specs.declared.lifecycle.TaskCall.TheVariants as call
use Rattle.task_lifecycle.specs.Lifecycle.{allowed}
use Rattle.task_requests.specs.declared.request.Reply.TheVariants as reply
use Rattle.task_board.proofs.task.Task.plan_wait.Goals as goal

pub returns-then-allows : goal.returns-then-allows
returns-then-allows c slot =
    let can : allowed call.Wait c.args.self.now.status ≡ true = search rules in
    (rw can refl, (λ t. refl), ap reply.Wait c.state.ensures)

pub returns-else-allows : goal.returns-else-allows
returns-else-allows c slot =
    let cannot : allowed call.Wait c.args.self.now.status ≡ false = search rules in
    (λ h. cc, rw cannot refl)
