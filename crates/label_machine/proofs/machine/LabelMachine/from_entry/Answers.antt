use Rattle.std.proofs.Common.{ℕ, All, sym, ap, subst, ◌∙◌}
use Rattle.wasm_ast.specs.declared.module.Module.{Module}
use Rattle.oci_config.specs.declared.process.ProcessConfig.{ProcessConfig}
use Rattle.oci_config.specs.Processes.{config_of}
use Rattle.step_machine.specs.Instantiation.{initial, after}
use Rattle.step_machine.specs.Instantiation.{entry as entry_of}
use Rattle.label_machine.specs.Inside.Runs.{IsInvalid}
use Rattle.label_machine.specs.Inside.Reached.{process_of}
use Rattle.label_machine.specs.Inside.Sound.{IsNumbered, AreInvoked}
use Rattle.label_machine.proofs.MachineLemmas.{process_by, held_by, settled_state, first_reached}
use Rattle.label_machine.proofs.machine.LabelMachine.from_entry.Goals as goal

pub state_from-requires : goal.state_from-requires
state_from-requires c =
    let m = c.module-of.result.now in
    let p = config_of c.args.process in
    let entry = ap entry_of c.module-of.ensures.value ∙ c.requires.entry in
    let invoked = subst (λ (k : Module). AreInvoked k p) (sym c.module-of.ensures.value) c.sound.ensures.invoked in
    let led = c.in_ok-first.ensures p entry c.in_ok-store.ensures invoked in
    let done = c.in_ok-settled.ensures p (initial m p) led in
    let never =
    subst (λ (k : Module). (n : ℕ) → IsInvalid (after k p n) → ⊥) (sym c.module-of.ensures.value) c.sound.ensures.always
    in
    settled_state m p (initial m p) c.in_ok-settled.settled done.0 done.1 (never 0)

pub invariant_of-result : goal.invariant_of-result
invariant_of-result c =
    let m = c.module-of.result.now in
    let p = config_of c.args.process in
    let entry = ap entry_of c.module-of.ensures.value ∙ c.requires.entry in
    let invoked = subst (λ (k : Module). AreInvoked k p) (sym c.module-of.ensures.value) c.sound.ensures.invoked in
    let led = c.in_ok-first.ensures p entry c.in_ok-store.ensures invoked in
    let done = c.in_ok-settled.ensures p (initial m p) led in
    let never =
    subst (λ (k : Module). (n : ℕ) → IsInvalid (after k p n) → ⊥) (sym c.module-of.ensures.value) c.sound.ensures.always
    in
    held_by m p 0 c.state_from.result
    (first_reached m p c.in_ok-settled.settled c.state_from.result c.state_from.ensures done.1)
    (record { always = never; numbered = subst (All IsNumbered) c.as_slice.ensures c.in_ok-number_all.ensures })

pub returns : goal.returns
returns c =
    let m = c.module-of.result.now in
    let p = config_of c.args.process in
    let entry = ap entry_of c.module-of.ensures.value ∙ c.requires.entry in
    let invoked = subst (λ (k : Module). AreInvoked k p) (sym c.module-of.ensures.value) c.sound.ensures.invoked in
    let led = c.in_ok-first.ensures p entry c.in_ok-store.ensures invoked in
    let done = c.in_ok-settled.ensures p (initial m p) led in
    let reached = first_reached m p c.in_ok-settled.settled c.state_from.result c.state_from.ensures done.1 in
    ap (λ (k : Module). record { «module» = k; process = process_of c.state_from.result; turns = 0 })
    c.module-of.ensures.value
    ∙ ap (λ (pr : ProcessConfig). record { «module» = c.args.valid.now; process = pr; turns = 0 })
    (process_by m p 0 c.state_from.result reached)
