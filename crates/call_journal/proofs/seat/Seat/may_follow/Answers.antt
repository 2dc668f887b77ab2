use Rattle.std.proofs.Common.{◌≡◌, ◌<◌, ◌≤◌, ◌==◌, Some, true, false, length, sym, ap, subst, ◌∙◌, arith, rules}
use Rattle.std.specs.Prelude.{slice_get}
use Rattle.std.proofs.lemmas.Bool.Decides.{nat_tests}
use Rattle.std.proofs.lemmas.Option.{slice_get_within}
use Rattle.call_journal.specs.Fronts.{Begins}
use Rattle.call_journal.proofs.SeatLemmas.{none_own, own_there}
use Rattle.call_journal.proofs.seat.Seat.may_follow.Goals as goal

pub returns-clause-on : goal.returns-clause-on
returns-clause-on g c h =
    let le : length c.self.inside.seen ≤ length c.args.journal.now =
    omega (arith, c.len.ensures, c.len-2.ensures, c.if-len.false) in
    let b : Begins c.self.inside.seen c.args.journal.now = c.meet.ensures.first le in
    let none = none_own c.self.inside.number c.self.inside.seen b.0 (λ k e at p.
    let there : slice_get c.args.journal.now k ≡ Some e = ap (λ xs. slice_get xs k) (sym b.1) ∙ p in
    let within = slice_get_within c.args.journal.now k e there in
    let i : k < c.loop-i.i = omega (arith, within, c.loop-i-test.false, c.len-i-end.ensures) in
    subst (λ s. (e.seat == s.number) ≡ false) (sym c.self.view_is)
    (c.loop-i.invariant k e (subst (λ s. length s.history ≤ k) c.self.view_is at) i there)) in
    rw (← c.self.view_is) (record { rest = b.0; joins = b.1; none = none })

pub returns-then-entry-self-clause-off : goal.returns-then-entry-self-clause-off
returns-then-entry-self-clause-off g c h =
    let e = c.in-Some.entry.now in
    let there : slice_get c.args.journal.now c.loop-i.i ≡ Some e = search rules in
    let is_own = c.if-entry-self.true in
    let own : (e.seat == c.self.inside.number) ≡ true = grind (arith, nat_tests, is_own) in
    rw (← c.self.view_is) (λ on. own_there c.self.inside.number c.self.inside.seen on.rest c.loop-i.i e
    (omega (arith, c.loop-i.auto.i, c.len-i.ensures)) (ap (λ xs. slice_get xs c.loop-i.i) on.joins ∙ there) own on.none)
