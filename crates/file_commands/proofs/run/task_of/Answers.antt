use Rattle.std.proofs.Common.{◌≡◌, Err, map, string_bytes, rules}
use Rattle.oci_config.specs.Processes.{config_of}
use Rattle.file_commands.specs.TaskRun.{given, CannotRun}
use Rattle.file_commands.proofs.RunLemmas.{handed_up, no_module, no_process, no_machine}
use Rattle.file_commands.proofs.run.task_of.Goals as goal

pub returns-in_err-module-clause-err : goal.returns-in_err-module-clause-err
returns-in_err-module-clause-err c =
    let e = c.in_err-module.field-0.0 in
    let g = given c.args.name.now (map string_bytes c.args.args.now) c.args.settings.now in
    let same : c.from_residual.result ≡ Err e = search rules in
    handed_up (CannotRun c.args.bytes.now g) c.from_residual.result e same
    (no_module c.args.bytes.now g e c.in_err-module.ensures.err)

pub returns-in_err-process-clause-err : goal.returns-in_err-process-clause-err
returns-in_err-process-clause-err c =
    let e = c.in_err-process.field-0.0 in
    let g = given c.args.name.now (map string_bytes c.args.args.now) c.args.settings.now in
    let same : c.from_residual-in_err-process.result ≡ Err e = search rules in
    handed_up (CannotRun c.args.bytes.now g) c.from_residual-in_err-process.result e same
    (no_process c.args.bytes.now g c.in_ok-module.module e c.in_ok-module.ensures.ok c.in_err-process.ensures.err)

pub returns-clause-err : goal.returns-clause-err
returns-clause-err c =
    let g = given c.args.name.now (map string_bytes c.args.args.now) c.args.settings.now in
    no_machine c.args.bytes.now g c.in_ok-module.module (config_of c.in_ok-process.process) c.machine_of.result
    c.in_ok-module.ensures.ok c.in_ok-process.ensures.taken c.in_ok-process.ensures.process c.machine_of.ensures.err
