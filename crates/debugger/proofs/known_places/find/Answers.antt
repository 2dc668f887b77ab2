use Rattle.std.proofs.Common.{◌≡◌, ◌+◌, ◌-◌, ◌/◌, ◌<◌, Some, length, refl, rules}
use Rattle.std.specs.Prelude.{slice_get}
use Rattle.std.proofs.lemmas.Option.{slice_get_read}
use Rattle.debugger.proofs.known_places.find.Goals as goal

pub returns-then-one-place : goal.returns-then-one-place
returns-then-one-place c =
    let known = c.args.known.now in
    let k = c.index-known-index.result in
    let func : k.func ≡ c.args.func = search rules in
    let place : k.place ≡ c.args.place = search rules in
    let within : c.loop-low.low + (c.loop-low.high - c.loop-low.low) / 2 < length known = search rules in
    let at : slice_get known (c.loop-low.low + (c.loop-low.high - c.loop-low.low) / 2) ≡ Some k =
    slice_get_read known (length known) (c.loop-low.low + (c.loop-low.high - c.loop-low.low) / 2) k refl within
    c.index-known-index.is in
    (k, at, func, place)
