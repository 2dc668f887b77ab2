use Rattle.std.proofs.Common.{◌≡◌, length, List, Some, None, refl, slice_get, slice_set, subst}
use Rattle.std.proofs.lemmas.Option.{slice_get_read}
use Rattle.call_journal.specs.Desks.{Spot}
use Rattle.call_journal.specs.Inside.Desks.{IsSetAt}
use Rattle.call_journal.proofs.DeskLemmas.{is_set}
use Rattle.call_journal.proofs.desk.Desk.receive.Goals as goal

pub returns-clause-set : goal.returns-clause-set
returns-clause-set c known =
    let ps = c.self.inside.places.items in
    let i = c.args.slot in
    let p = c.in-Some.place.now in
    let at : slice_get ps i ≡ Some p =
    slice_get_read ps (length ps) i p refl c.in-Some.ensures.item.3.0 c.in-Some.ensures.value in
    subst (λ (ds : List Spot). IsSetAt i None ds (slice_set ps i c.receive.new.self)) c.self.view_is
    (is_set ps i p c.receive.new.self None at (c.receive.ensures.idle known))
