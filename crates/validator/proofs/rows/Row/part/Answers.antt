use Rattle.std.proofs.Common.{sym, subst}
use Rattle.validator.specs.Inside.Periods.{Repeats}
use Rattle.validator.proofs.PeriodLemmas.{part_repeats}
use Rattle.validator.proofs.rows.Row.part.Goals as goal

pub invariant_of-result : goal.invariant_of-result
invariant_of-result c =
    let period = c.self.inside.period in
    part_repeats period c.args.first _ c.deref.result.now
    (subst (Repeats period) (sym c.deref.ensures.value) c.self.invariant)
