use Rattle.std.proofs.Common.{◌≡◌, List, IfOk, sym, ap, subst, ◌∙◌}
use Rattle.wasm_ast.specs.declared.shown.ShownFrame.{ShownFrame}
use Rattle.step_machine.specs.MachineView.{MachineView, state_of}
use Rattle.step_machine.specs.Shown.{shown}
use Rattle.label_machine.specs.Inside.Reached.{process_of}
use Rattle.label_machine.proofs.ShownLemmas.{frames_of, shown_by}
use Rattle.label_machine.proofs.machine.LabelMachine.frames.Goals as goal

pub returns-in-Going : goal.returns-in-Going
returns-in-Going c =
    let i = c.self.inside in
    let same =
    sym (ap frames_of c.in-Going.is)
    ∙ (sym (shown_by i.of.now (process_of i.state) i.turns i.state c.self.invariant.0)
    ∙ ap (λ (v : MachineView). shown (state_of v)) c.self.view_is) in
    subst (λ (fs : List ShownFrame). IfOk c.shown_frames.result (λ v. v.items ≡ fs)) same c.shown_frames.ensures

pub returns-in-Ended : goal.returns-in-Ended
returns-in-Ended c =
    let i = c.self.inside in
    c.new.ensures.items
    ∙ (sym (ap frames_of c.in-Ended.is)
    ∙ (sym (shown_by i.of.now (process_of i.state) i.turns i.state c.self.invariant.0)
    ∙ ap (λ (v : MachineView). shown (state_of v)) c.self.view_is))
