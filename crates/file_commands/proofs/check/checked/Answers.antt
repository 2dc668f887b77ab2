use Rattle.std.proofs.Common.{◌≡◌, Err, rules}
use Rattle.file_commands.specs.Inside.Written.{CannotCheck, invalid}
use Rattle.file_commands.proofs.RanLemmas.{handed_on, not_checked, not_validated}
use Rattle.file_commands.proofs.check.checked.Goals as goal

pub returns-in_err-module-clause-err : goal.returns-in_err-module-clause-err
returns-in_err-module-clause-err c =
    let e = c.in_err-module.field-0.0 in
    let same : c.from_residual.result ≡ Err e = search rules in
    handed_on (CannotCheck c.args.bytes.now) c.from_residual.result e same
    (not_checked c.args.bytes.now e c.in_err-module.ensures.err)

pub returns-in_err-valid-clause-err : goal.returns-in_err-valid-clause-err
returns-in_err-valid-clause-err c =
    let e = c.in_err-valid.field-0.0 in
    let bytes = c.args.bytes.now in
    let same : c.from_residual-in_err-valid.result ≡ Err e = search rules in
    handed_on (CannotCheck bytes) c.from_residual-in_err-valid.result e same
    (not_validated (CannotCheck bytes) c.validate.result e c.in_err-valid.was c.validate.ensures.err
    (λ at p. invalid c.in_ok-module.module at c.in_ok-module.ensures.ok (c.validate.ensures.invalid at p)))
