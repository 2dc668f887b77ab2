use Rattle.std.proofs.Common.{◌+◌, ap, sym, ◌∙◌, arith, subst}
use Rattle.call_journal.specs.Seats.{Known}
use Rattle.call_journal.specs.Inside.Calls.{EndsWithCall}
use Rattle.call_journal.proofs.SeatLemmas.{one_more}
use Rattle.call_journal.proofs.seat.Seat.made.Goals as goal

pub invariant_of-self : goal.invariant_of-self
invariant_of-self g c =
    let ends =
    subst (λ (s : Known). EndsWithCall s.number s.history c.args.journal) (sym c.self.view_is) c.requires.call in
    let more = one_more c.self.inside.number c.self.inside.seen c.args.journal ends in (
      omega (arith, c.add.ensures.parts, c.self.invariant.0),
      c.add.ensures.amount ∙ (ap (λ n. n + 1) c.self.invariant.1 ∙ sym more),
      c.requires.legal,
    )
