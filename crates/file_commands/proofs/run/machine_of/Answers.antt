use Rattle.std.proofs.Common.{◌≡◌, Err, Some, subst, rules}
use Rattle.wasm_ast.specs.declared.module.Module.{Module}
use Rattle.oci_config.specs.Processes.{config_of}
use Rattle.step_machine.specs.Instantiation.{instantiation_refusal}
use Rattle.file_commands.specs.Inside.Written.{CannotStart, not_valid}
use Rattle.file_commands.proofs.RanLemmas.{not_validated}
use Rattle.file_commands.proofs.RunLemmas.{handed_up, told_unless, not_started}
use Rattle.file_commands.proofs.run.machine_of.Goals as goal

pub returns-in_err-valid-clause-err : goal.returns-in_err-valid-clause-err
returns-in_err-valid-clause-err c =
    let e = c.in_err-valid.field-0.0 in
    let why = CannotStart c.args.unchecked (config_of c.args.process) in
    let same : c.from_residual.result ≡ Err e = search rules in
    handed_up why c.from_residual.result e same
    (told_unless why e
    (not_validated why c.validate.result e c.in_err-valid.was c.validate.ensures.err
    (λ at p. not_valid at (c.validate.ensures.invalid at p))))

pub returns-clause-err : goal.returns-clause-err
returns-clause-err c =
    let m = c.args.unchecked in
    let p = config_of c.args.process in
    let same = c.in_ok-valid.ensures.ok in
    not_started m p c.new.result c.in_ok-valid.ensures.valid
    (λ e is other. subst (λ (x : Module). instantiation_refusal x p ≡ Some e) same (c.new.ensures.refused e is other))
