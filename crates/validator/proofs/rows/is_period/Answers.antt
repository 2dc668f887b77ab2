use Rattle.validator.proofs.PeriodLemmas.{again}
use Rattle.validator.proofs.rows.is_period.Goals as goal

pub returns-then-period-bytes : goal.returns-then-period-bytes
returns-then-period-bytes c = λ same. again c.args.period c.args.bytes.now (c.are_same_bytes.ensures same)
