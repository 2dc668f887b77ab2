use Rattle.std.proofs.Common.{◌≡◌, Err, ap, rules}
use Rattle.wasm_ast.specs.declared.refusal.Refusal.{Refusal}
use Rattle.file_commands.specs.Inside.Written.{CannotAssemble}
use Rattle.file_commands.proofs.RanLemmas.{handed_on, not_assembled, not_encoded}
use Rattle.file_commands.proofs.asm.encoding_line.Goals as goal

pub returns-in_err-module-clause-err : goal.returns-in_err-module-clause-err
returns-in_err-module-clause-err c =
    let e = c.in_err-module.field-0.0 in
    let same : c.from_residual.result ≡ Err e = search rules in
    handed_on (CannotAssemble c.args.bytes.now) c.from_residual.result e same
    (not_assembled c.args.bytes.now e c.in_err-module.ensures.err)

pub returns-in_err-encoded-clause-err : goal.returns-in_err-encoded-clause-err
returns-in_err-encoded-clause-err c =
    let e = c.in_err-encoded.field-0.0 in
    let bytes = c.args.bytes.now in
    let m = c.in_ok-module.module in
    let same : c.from_residual-in_err-encoded.result ≡ Err e = search rules in
    handed_on (CannotAssemble bytes) c.from_residual-in_err-encoded.result e same
    (not_encoded bytes m e c.in_ok-module.ensures.ok c.in_err-encoded.ensures.causes
    (λ p. c.in_err-encoded.ensures.limit (ap (λ (x : Refusal). Err x) p)))
