use Rattle.std.proofs.Common.{◌≡◌, ◌∙◌, Some, ap, rules}
use Rattle.step_machine.specs.MachineView.{MachineView}
use Rattle.task_board.specs.Inside.Shown.{task_of}
use Rattle.task_board.proofs.TaskInvariant.{idle, ran}
use Rattle.task_board.proofs.task.Task.step.Goals as goal

pub invariant_of-self : goal.invariant_of-self
invariant_of-self c =
    let t = task_of c.self.inside in
    let at : c.self.inside.checkout ≡ Some c.in-Some.checkout = search rules in
    let is = idle t c.self.inside.checkout c.in-Some.checkout c.self.invariant at in
    let machine =
    ran c.deref_mut.result.now c.run-end.new.self t.module t.process t.turns _ c.turns-turns.result
    (c.deref_mut.ensures.value ∙ is.machine) c.run-end.ensures.turns
    (c.turns-turns.ensures ∙ ap (λ (x : MachineView). x.turns) c.deref-2.ensures) in
    let own = is.own in (
      c.self.invariant.0,
      (
        machine,
        record {
          same_id = own.same_id;
          same_bytes = own.same_bytes;
          same_module = own.same_module;
          same_process = own.same_process;
          same_breaks = own.same_breaks;
        },
      ),
    )
