use Rattle.std.proofs.Common.{sym, subst, ◌∙◌}
use Rattle.validator.specs.Inside.Periods.{Repeats}
use Rattle.validator.proofs.PeriodLemmas.{same_bytes}
use Rattle.validator.proofs.rows.Part.is_known_same.Goals as goal

pub returns-then-period-self : goal.returns-then-period-self
returns-then-period-self c = λ same.
    let bytes = c.self.inside.bytes.now in
    let others = c.other.inside.bytes.now in
    sym c.self.view_is
    ∙ (same_bytes c.self.inside.period bytes others c.if-period-gt0.true c.self.invariant
    (subst (λ p. Repeats p others) (sym c.if-period-other.true) c.other.invariant) c.if-self-other.false
    (c.are_same_bytes.ensures same)
    ∙ c.other.view_is)
