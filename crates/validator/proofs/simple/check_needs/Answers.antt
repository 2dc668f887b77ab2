use Rattle.validator.specs.Inside.FunctionContext.{context_of}
use Rattle.validator.proofs.NeedLemmas.{lacks_none}
use Rattle.validator.proofs.simple.check_needs.Goals as goal

pub returns-in-Err-clause-invalid : goal.returns-in-Err-clause-invalid
returns-in-Err-clause-invalid c =
    let a = c.args in
    λ e. lacks_none (context_of a.function.now a.labels.now) a.simple.now c.in-Err.field-0 a.operands.now.stack
    c.in-Err.ensures.lacks
