use Rattle.std.proofs.Common.{ap, ◌∙◌}
use Rattle.serde_json.specs.Data.{string}
use Rattle.serde_json.specs.declared.value.Value.TheVariants as value
use Rattle.request_lines.proofs.ListLemmas.{one_more, all_made, view_of_text}
use Rattle.request_lines.proofs.reply_value.texts_value.Goals as goal

pub loop-text-preserved : goal.loop-text-preserved
loop-text-preserved c =
    one_more string c.args.texts.now c.loop-text.text-index c.text-item.result c.loop-text.list.items
    (value.String c.in_ok-from_str.field-0) c.push.new.self.items c.loop-text-test.true
    (view_of_text c.in_ok-from_str.field-0
    ∙ ap string (c.in_ok-from_str.ensures.ok ∙ c.as_str.ensures ∙ c.text-item.is))
    c.in_ok-push.ensures.items c.loop-text.invariant

pub returns : goal.returns
returns c =
    all_made string c.args.texts.now c.loop-text.text-index c.loop-text.list c.loop-text-test.false
    c.loop-text.invariant
