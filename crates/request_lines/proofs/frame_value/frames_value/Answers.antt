use Rattle.std.proofs.Common.{ap, ◌∙◌}
use Rattle.request_lines.specs.Reply.{frame_data}
use Rattle.request_lines.proofs.ListLemmas.{one_more, all_made}
use Rattle.request_lines.proofs.frame_value.frames_value.Goals as goal

pub loop-frame-preserved : goal.loop-frame-preserved
loop-frame-preserved c =
    one_more frame_data c.args.frames.now c.loop-frame.frame-index c.frame-item.result c.loop-frame.list.items
    c.in_ok-frame_value.field-0 c.push.new.self.items c.loop-frame-test.true
    (c.in_ok-frame_value.ensures ∙ ap frame_data c.frame-item.is)
    c.in_ok-push.ensures.items c.loop-frame.invariant

pub returns : goal.returns
returns c =
    all_made frame_data c.args.frames.now c.loop-frame.frame-index c.loop-frame.list c.loop-frame-test.false
    c.loop-frame.invariant
