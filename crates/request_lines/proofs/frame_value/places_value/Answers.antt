use Rattle.std.proofs.Common.{ap, ◌∙◌}
use Rattle.request_lines.specs.Shape.{count}
use Rattle.request_lines.proofs.ListLemmas.{one_more, all_made}
use Rattle.request_lines.proofs.frame_value.places_value.Goals as goal

pub loop-place-preserved : goal.loop-place-preserved
loop-place-preserved c =
    one_more count c.args.places.now c.loop-place.place-index 0 c.loop-place.list.items
    c.from-in-loop-place.result c.push.new.self.items c.loop-place-test.true
    (c.from-in-loop-place.ensures ∙ ap count c.from.ensures)
    c.in_ok-push.ensures.items c.loop-place.invariant

pub returns : goal.returns
returns c =
    all_made count c.args.places.now c.loop-place.place-index c.loop-place.list c.loop-place-test.false
    c.loop-place.invariant
