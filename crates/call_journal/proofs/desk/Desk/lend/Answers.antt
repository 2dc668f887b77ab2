use Rattle.std.proofs.Common.{◌≡◌, length, List, Some, refl, slice_get, slice_set, subst}
use Rattle.std.specs.Prelude.{IfSome, IfNone, is_some, true, None, ◌⊎◌}
use Rattle.std.proofs.lemmas.Option.{slice_get_read}
use Rattle.call_journal.specs.Desks.{Spot, lent_at, spot_names}
use Rattle.call_journal.specs.Inside.Desks.{IsSetAt}
use Rattle.call_journal.proofs.DeskLemmas.{lent_set, lent_there}
use Rattle.call_journal.proofs.desk.Desk.lend.Goals as goal

pub returns-clause-set : goal.returns-clause-set
returns-clause-set c =
    let ps = c.self.inside.places.items in
    let i = c.args.slot in
    let p = c.in_ok-place.place.now in
    let at : slice_get ps i ≡ Some p =
    slice_get_read ps (length ps) i p refl c.in_ok-place.ensures.item.3.0 c.in_ok-place.ensures.value in
    subst
    (λ (ds : List Spot). IfSome c.lend.result
    (λ s. IsSetAt i (Some c.args.loan.now) ds (slice_set ps i c.lend.new.self))) c.self.view_is
    (lent_set _ _ c.lend.result ps i p c.lend.new.self (Some c.args.loan.now) at c.lend.ensures.some)

pub returns-clause-none : goal.returns-clause-none
returns-clause-none c =
    let ps = c.self.inside.places.items in
    let i = c.args.slot in
    let p = c.in_ok-place.place.now in
    let at : slice_get ps i ≡ Some p =
    slice_get_read ps (length ps) i p refl c.in_ok-place.ensures.item.3.0 c.in_ok-place.ensures.value in
    subst
    (λ (ds : List Spot). IfNone c.lend.result
    ((slice_get (spot_names ds) i ≡ None) ⊎ (is_some (lent_at i ds) ≡ true))) c.self.view_is
    (lent_there _ c.lend.result ps i p at c.lend.ensures.none)
