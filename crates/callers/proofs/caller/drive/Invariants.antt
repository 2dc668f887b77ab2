use Rattle.std.specs.Io.KnownBytes.{prepend_known}
use Rattle.request_lines.specs.Input.{KnowsEnd, still_to_read}
use Rattle.callers.proofs.DriveLemmas.{Driving}
use Rattle.callers.proofs.caller.drive.Given as goal

abbrev pub invariant-loop-spare : goal.invariant-loop-spare
invariant-loop-spare g l =
    KnowsEnd l.lines.at_end (prepend_known l.lines.chunk (g.R.Source.remaining l.reader))
    × Driving l.fn.seat l.lines.at_end (g.R.Source.remaining l.fn.reader)
    (prepend_known l.lines.chunk (g.R.Source.remaining l.reader))
    (g.W.Sink.contents l.fn.writer) (g.W.Sink.contents l.writer) l.seat

-- each line takes something of what there is to read
abbrev pub decreases-loop-spare : goal.decreases-loop-spare
decreases-loop-spare g l = still_to_read (g.R.Source.reads_left l.reader) l.lines.chunk
