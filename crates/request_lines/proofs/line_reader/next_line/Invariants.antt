use Rattle.std.proofs.Common.{◌≤◌}
use Rattle.std.specs.Io.KnownBytes.{prepend_known}
use Rattle.request_lines.specs.Input.{still_to_read}
use Rattle.request_lines.proofs.LineLemmas.{Gathers}
use Rattle.request_lines.proofs.line_reader.next_line.Given as goal

abbrev pub invariant-loop : goal.invariant-loop
invariant-loop g l =
    Gathers (prepend_known l.fn.chunk (g.R.Source.remaining l.fn.reader))
    (prepend_known l.chunk (g.R.Source.remaining l.reader)) l.line
    × (still_to_read (g.R.Source.reads_left l.reader) l.chunk
    ≤ still_to_read (g.R.Source.reads_left l.fn.reader) l.fn.chunk)

-- each piece takes something of what there is to read
abbrev pub decreases-loop : goal.decreases-loop
decreases-loop g l = still_to_read (g.R.Source.reads_left l.reader) l.chunk
