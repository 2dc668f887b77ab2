use Rattle.file_commands.proofs.ReplayLemmas.{one_line_more}
use Rattle.file_commands.proofs.replay.read_script.Goals as goal

pub loop-left-preserved : goal.loop-left-preserved
loop-left-preserved c =
    one_line_more c.args.bytes.now c.loop-left.left.now c.split_line.result.1.now c.split_line.result.0.now _ _ _ _
    c.loop-left.invariant.0
    c.loop-left.invariant.1 c.loop-left.invariant.2 c.split_line.ensures.lines c.in_ok-read.ensures
