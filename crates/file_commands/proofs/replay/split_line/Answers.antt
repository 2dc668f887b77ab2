use Rattle.request_lines.proofs.SplitLemmas.{lines_from_feed, lines_from_none}
use Rattle.file_commands.proofs.replay.split_line.Goals as goal

pub returns-in-Some-clause-lines : goal.returns-in-Some-clause-lines
returns-in-Some-clause-lines c =
    lines_from_feed c.args.bytes.now c.in-Some.end c.in-Some.ensures.0.high c.in-Some.ensures.0.before
    c.in-Some.ensures.1

pub returns-in-None-clause-lines : goal.returns-in-None-clause-lines
returns-in-None-clause-lines c = lines_from_none c.args.bytes.now c.requires c.in-None.ensures
