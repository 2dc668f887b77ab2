use Rattle.std.proofs.Common.{◌+◌, List, get_or, drop, subst}
use Rattle.std.proofs.lemmas.List.{at_drop_more}
use Rattle.serde_json.specs.View.{members_view}
use Rattle.request_lines.specs.declared.table.Key.{Key}
use Rattle.request_lines.specs.declared.table.Key.TheVariants.{Hex}
use Rattle.request_lines.specs.Inside.Values.{Taking}
use Rattle.request_lines.proofs.ValueLemmas.{taking_more}
use Rattle.request_lines.proofs.values.take_values.Goals as goal

pub loop-key-preserved : goal.loop-key-preserved
loop-key-preserved c =
    let keys = c.args.keys.now in
    let i = c.loop-key.key-index in
    let whole = members_view c.args.members.entries in
    let left = members_view c.loop-key.left.entries in
    let e = c.in_ok-take_value.ensures in
    taking_more keys (drop (i + 1) keys) (get_or keys i Hex) whole left _ c.loop-key.values c.take_value.new.values
    (subst (λ (rest : List Key). Taking keys rest whole left c.loop-key.values)
    (at_drop_more (λ (rest : List Key). rest) keys i Hex c.loop-key-test.true) c.loop-key.invariant)
    e.value e.others e.rest
