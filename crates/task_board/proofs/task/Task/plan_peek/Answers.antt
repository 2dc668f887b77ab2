use Rattle.std.proofs.Common.{◌≡◌, refl, true, is_some, rules}
use Rattle.task_board.proofs.task.Task.plan_peek.Goals as goal

pub returns-in_default : goal.returns-in_default
returns-in_default c slot =
    let out : is_some c.args.self.now.out ≡ true = search rules in
    (λ h. cc, rw out refl)
