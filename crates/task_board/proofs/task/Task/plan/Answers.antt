use Rattle.std.proofs.Common.{IfOk, sym, subst}
use Rattle.task_requests.specs.declared.request.Ask.{Ask}
use Rattle.task_board.specs.Inside.Plans.{PlansAsk}
use Rattle.task_board.proofs.task.Task.plan.Goals as goal

pub returns-in-Wait-clause-ok : goal.returns-in-Wait-clause-ok
returns-in-Wait-clause-ok c =
    let t = c.args.self.now in
    subst (λ (a : Ask). PlansAsk t c.args.slot c.args.id a c.plan_wait.result) (sym c.in-Wait.is)
    (c.plan_wait.ensures c.args.slot)

pub returns-in-Output-clause-ok : goal.returns-in-Output-clause-ok
returns-in-Output-clause-ok c =
    let t = c.args.self.now in
    subst (λ (a : Ask). IfOk c.plan_output.result (PlansAsk t c.args.slot c.args.id a)) (sym c.in-Output.is)
    (c.plan_output.ensures c.args.slot)

pub returns-in-Inspect-clause-ok : goal.returns-in-Inspect-clause-ok
returns-in-Inspect-clause-ok c =
    let t = c.args.self.now in
    subst (λ (a : Ask). IfOk c.plan_inspect.result (PlansAsk t c.args.slot c.args.id a)) (sym c.in-Inspect.is)
    (c.plan_inspect.ensures c.args.slot)

pub returns-in-Peek-clause-ok : goal.returns-in-Peek-clause-ok
returns-in-Peek-clause-ok c =
    let t = c.args.self.now in
    subst (λ (a : Ask). IfOk c.plan_peek.result (PlansAsk t c.args.slot c.args.id a)) (sym c.in-Peek.is)
    (c.plan_peek.ensures c.args.slot)
