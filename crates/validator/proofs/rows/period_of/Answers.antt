use Rattle.validator.proofs.PeriodLemmas.{not_known}
use Rattle.validator.proofs.rows.period_of.Goals as goal

pub returns : goal.returns
returns c = not_known c.args.bytes.now
