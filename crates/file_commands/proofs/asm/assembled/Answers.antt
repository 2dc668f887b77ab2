use Rattle.std.proofs.Common.{sym, ap, ◌∙◌, subst}
use Rattle.file_commands.specs.Ran.{succeeded, refused}
use Rattle.file_commands.specs.Assembled.{IsAssembled, assembled}
use Rattle.file_commands.proofs.RanLemmas.{told_plain, asm_told}
use Rattle.file_commands.proofs.asm.assembled.Goals as goal

pub returns-in-Ok-clause-ran : goal.returns-in-Ok-clause-ran
returns-in-Ok-clause-ran c =
    let told = c.in-Ok.ensures.ok in
    told_plain (IsAssembled c.args.bytes.now) c.args.explain refused c.succeeded.result
    (subst (IsAssembled c.args.bytes.now) (sym (c.succeeded.ensures ∙ ap succeeded told.3))
    (assembled told.0 told.1 told.2))

pub returns-in-Err-clause-ran : goal.returns-in-Err-clause-ran
returns-in-Err-clause-ran c =
    asm_told c.args.bytes.now c.in-Err.refusal c.args.explain c.refused_why.result c.refused_why.ensures.ran
    c.refused_why.ensures.told c.in-Err.ensures.err
