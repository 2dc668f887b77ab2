use Rattle.std.proofs.Common.{◌≡◌, ℕ, List, length, reverse, Some, ap, ◌∙◌, rules}
use Rattle.std.specs.Prelude.{slice_get}
use Rattle.debugger.proofs.OpenLemmas.{found_here, next_from}
use Rattle.debugger.proofs.open_blocks.add_here.Goals as goal

pub returns-in_ok-push-clause-found : goal.returns-in_ok-push-clause-found
returns-in_ok-push-clause-found c = λ all.
    let at :
    slice_get c.args.stops.now.places.now (length c.args.found.now.items) ≡ Some c.args.number = search rules in
    found_here all c.args.stops.now.places.now c.args.found.now.items c.push.new.self.items c.args.number
    c.in_ok-here.here (reverse c.args.blocks.now.items) at c.in_ok-push.ensures.items
    (c.in_ok-here.ensures ∙ ap (λ (xs : List ℕ). reverse xs) c.as_slice.ensures.value)

pub returns-in_ok-push-clause-from : goal.returns-in_ok-push-clause-from
returns-in_ok-push-clause-from c =
    let at :
    slice_get c.args.stops.now.places.now (length c.args.found.now.items) ≡ Some c.args.number = search rules in
    next_from c.args.stops.now.places.now c.args.found.now.items c.push.new.self.items c.args.number c.in_ok-here.here
    c.requires.rising at c.in_ok-push.ensures.items
