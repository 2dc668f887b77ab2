use Rattle.std.proofs.Common.{sym, ap, ◌∙◌}
use Rattle.step_machine.specs.Instantiation.{ended}
use Rattle.step_machine.specs.MachineView.{MachineView, state_of}
use Rattle.label_machine.specs.Inside.Reached.{process_of}
use Rattle.label_machine.proofs.MachineLemmas.{end_of, ended_by}
use Rattle.label_machine.proofs.machine.LabelMachine.halted.Goals as goal

pub returns-in-Going : goal.returns-in-Going
returns-in-Going c =
    let i = c.self.inside in
    sym (ap end_of c.in-Going.is)
    ∙ (sym (ended_by i.of.now (process_of i.state) i.turns i.state c.self.invariant.0)
    ∙ ap (λ (v : MachineView). ended (state_of v)) c.self.view_is)

pub returns-in-Ended : goal.returns-in-Ended
returns-in-Ended c =
    let i = c.self.inside in
    sym (ap end_of c.in-Ended.is)
    ∙ (sym (ended_by i.of.now (process_of i.state) i.turns i.state c.self.invariant.0)
    ∙ ap (λ (v : MachineView). ended (state_of v)) c.self.view_is)
