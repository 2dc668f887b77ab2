use Rattle.validator.proofs.ConstantLemmas.{no_constant}
use Rattle.validator.proofs.module_parts.is_constant.Goals as goal

pub returns-in_default-4 : goal.returns-in_default-4
returns-in_default-4 c =
    no_constant c.args.expected c.as_slice.result.now c.args.init.now c.in_default.len_at_least c.as_slice.ensures
