use Rattle.std.proofs.Common.{ap, ◌∙◌}
use Rattle.serde_json.specs.Data.{string}
use Rattle.serde_json.specs.declared.value.Value.TheVariants as value
use Rattle.request_lines.specs.Reply.{value_text}
use Rattle.request_lines.proofs.ListLemmas.{one_more, all_made, view_of_text}
use Rattle.request_lines.proofs.frame_value.values_value.Goals as goal

pub loop-value-preserved : goal.loop-value-preserved
loop-value-preserved c =
    one_more (λ v. string (value_text v)) c.args.values.now c.loop-value.value-index _ c.loop-value.list.items
    (value.String c.in_ok-text_of.field-0) c.push.new.self.items c.loop-value-test.true
    (view_of_text c.in_ok-text_of.field-0 ∙ ap string c.in_ok-text_of.ensures)
    c.in_ok-push.ensures.items c.loop-value.invariant

pub returns : goal.returns
returns c =
    all_made (λ v. string (value_text v)) c.args.values.now c.loop-value.value-index c.loop-value.list
    c.loop-value-test.false
    c.loop-value.invariant
