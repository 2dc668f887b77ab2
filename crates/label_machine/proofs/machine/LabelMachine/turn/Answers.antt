use Rattle.std.proofs.Common.{◌≡◌, ◌+◌, Some, None, refl, sym, ap, subst, ◌∙◌, arith}
use Rattle.oci_config.specs.declared.process.ProcessConfig.{ProcessConfig}
use Rattle.step_machine.specs.MachineView.{MachineView, state_of}
use Rattle.step_machine.specs.Instantiation.{ended}
use Rattle.label_machine.specs.Inside.Reached.{process_of, Reached}
use Rattle.label_machine.proofs.MachineLemmas.{process_by, held_by, not_over, ended_by, end_of}
use Rattle.label_machine.proofs.machine.LabelMachine.turn.Goals as goal

pub unreachable-requires : goal.unreachable-requires
unreachable-requires c =
    let i = c.self.inside in
    let clash : Some c.in_default.field-0 ≡ None =
    sym (ap end_of c.in_default.is)
    ∙ (sym (ended_by i.of.now (process_of i.state) i.turns i.state c.self.invariant.0)
    ∙ (ap (λ (v : MachineView). ended (state_of v)) c.self.view_is ∙ c.requires)) in
    cc

pub overflow_add-turns : goal.overflow_add-turns
overflow_add-turns c =
    let i = c.self.inside in
    let p = process_of i.state in
    let before = subst (Reached i.of.now p i.turns) c.in-Going.is c.self.invariant.0 in
    let early = not_over i.of.now p i.turns c.in-Going.run' before in
    omega (arith, early)

pub next_state-requires : goal.next_state-requires
next_state-requires c =
    let i = c.self.inside in
    let p = process_of i.state in
    let before = subst (Reached i.of.now p i.turns) c.in-Going.is c.self.invariant.0 in
    record { reached = (p, i.turns, refl, before, c.self.invariant.1) }

pub invariant_of-result : goal.invariant_of-result
invariant_of-result c =
    let i = c.self.inside in
    let p = process_of i.state in
    let before = subst (Reached i.of.now p i.turns) c.in-Going.is c.self.invariant.0 in
    held_by i.of.now p (i.turns + 1) c.in_ok-next_state.field-0
    (c.in_ok-next_state.ensures p i.turns refl before) c.self.invariant.1

pub returns : goal.returns
returns c =
    let i = c.self.inside in
    let p = process_of i.state in
    let before = subst (Reached i.of.now p i.turns) c.in-Going.is c.self.invariant.0 in
    let reached = c.in_ok-next_state.ensures p i.turns refl before in
    ap (λ (pr : ProcessConfig). record { «module» = i.of.now; process = pr; turns = i.turns + 1 })
    (process_by i.of.now p (i.turns + 1) c.in_ok-next_state.field-0 reached)
    ∙ ap (λ (v : MachineView). record v { turns = v.turns + 1 }) c.self.view_is
