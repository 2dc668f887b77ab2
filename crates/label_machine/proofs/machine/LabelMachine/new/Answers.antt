use Rattle.std.proofs.Common.{◌≡◌, Some, None, Err, refl, sym, ap, subst, ◌∙◌}
use Rattle.wasm_ast.specs.declared.module.Module.{Module}
use Rattle.oci_config.specs.Processes.{config_of}
use Rattle.step_machine.specs.Instantiation.{instantiation_refusal}
use Rattle.step_machine.proofs.ResultLemmas.{residual}
use Rattle.label_machine.proofs.machine.LabelMachine.new.Goals as goal

pub returns-in_err-entry-clause-first : goal.returns-in_err-entry-clause-first
returns-in_err-entry-clause-first c = λ e is.
    let r =
    residual c.from_residual.result c.in_err-entry.field-0.0 c.from_residual.ensures.0 c.from_residual.ensures.1 in
    let why =
    subst (λ (m : Module). instantiation_refusal m (config_of c.args.process) ≡ Some c.in_err-entry.field-0.0)
    c.module-of.ensures.value
    (c.in_err-entry.ensures.refused c.in_err-entry.field-0.0 refl (config_of c.args.process) refl) in
    let both : Some c.in_err-entry.field-0.0 ≡ Some e = sym why ∙ is in
    let same : c.in_err-entry.field-0.0 ≡ e = cc in
    r ∙ ap Err same

pub returns-clause-opens : goal.returns-clause-opens
returns-clause-opens c =
    subst (λ (m : Module). instantiation_refusal m (config_of c.args.process) ≡ None) c.module-of.ensures.value
    (c.in_ok-entry.ensures.opens (config_of c.args.process) refl)

pub returns-clause-first : goal.returns-clause-first
returns-clause-first c = λ e is.
    let none =
    subst (λ (m : Module). instantiation_refusal m (config_of c.args.process) ≡ None) c.module-of.ensures.value
    (c.in_ok-entry.ensures.opens (config_of c.args.process) refl) in
    let both : None ≡ Some e = sym none ∙ is in
    cc

pub returns-in_err-entry-clause-refused : goal.returns-in_err-entry-clause-refused
returns-in_err-entry-clause-refused c = λ e is not_memory.
    let r =
    residual c.from_residual.result c.in_err-entry.field-0.0 c.from_residual.ensures.0 c.from_residual.ensures.1 in
    let why =
    subst (λ (m : Module). instantiation_refusal m (config_of c.args.process) ≡ Some c.in_err-entry.field-0.0)
    c.module-of.ensures.value
    (c.in_err-entry.ensures.refused c.in_err-entry.field-0.0 refl (config_of c.args.process) refl) in
    let both : Err c.in_err-entry.field-0.0 ≡ Err e = sym r ∙ is in
    let same : c.in_err-entry.field-0.0 ≡ e = cc in
    why ∙ ap Some same

pub from_entry-requires-clause-opens : goal.from_entry-requires-clause-opens
from_entry-requires-clause-opens c =
    subst (λ (m : Module). instantiation_refusal m (config_of c.args.process) ≡ None) c.module-of.ensures.value
    (c.in_ok-entry.ensures.opens (config_of c.args.process) refl)

pub returns-in_err-from_entry-clause-first : goal.returns-in_err-from_entry-clause-first
returns-in_err-from_entry-clause-first c = λ e is.
    let none =
    subst (λ (m : Module). instantiation_refusal m (config_of c.args.process) ≡ None) c.module-of.ensures.value
    (c.in_ok-entry.ensures.opens (config_of c.args.process) refl) in
    let both : None ≡ Some e = sym none ∙ is in
    cc
