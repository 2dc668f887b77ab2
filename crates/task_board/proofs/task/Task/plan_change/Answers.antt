use Rattle.std.proofs.Common.{◌≡◌, true, false, refl, rules}
use Rattle.task_lifecycle.specs.Lifecycle.{allowed}
use Rattle.task_board.specs.Inside.Changes.{change_call}
use Rattle.task_board.proofs.AskLemmas.{change_accepted, change_refused}
use Rattle.task_board.proofs.task.Task.plan_change.Goals as goal

pub returns-then-allows : goal.returns-then-allows
returns-then-allows c =
    let can : allowed (change_call c.args.change) c.args.self.now.status ≡ true = search rules in
    (refl, change_accepted c.args.change c.args.self.now c.requires can, (refl, refl))

pub returns-else-allows : goal.returns-else-allows
returns-else-allows c =
    let cannot : allowed (change_call c.args.change) c.args.self.now.status ≡ false = search rules in
    (λ h. cc, change_refused c.args.change c.args.self.now c.requires cannot)
