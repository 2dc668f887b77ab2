use Rattle.std.proofs.Common.{Ok, Err, true≢false, ap, sym, ◌∙◌}
use Rattle.std.specs.Io.KnownBytes.{prepend_known}
use Rattle.callers.proofs.DriveLemmas.{driving_none, drives_none, drives_stopped, drives_after, driving_after, told_unwritten}
use Rattle.callers.proofs.caller.drive.Goals as goal

pub returns-in_default-clause-lines : goal.returns-in_default-clause-lines
returns-in_default-clause-lines g c =
    drives_none c.args.seat (g.R.Source.remaining c.args.reader.now) (g.R.Source.remaining c.args.reader.now)
    (g.W.Sink.contents c.args.writer.now)

pub loop-spare-init : goal.loop-spare-init
loop-spare-init g c = (
  λ at. absurd (true≢false (sym at ∙ c.in-Ok.ensures.1)),
  driving_none c.args.seat c.in-Ok.lines.at_end (g.R.Source.remaining c.args.reader.now)
      (g.W.Sink.contents c.args.writer.now)
      c.in-Ok.lines.chunk c.in-Ok.ensures.0,
)

pub returns-in-Err-clause-lines : goal.returns-in-Err-clause-lines
returns-in-Err-clause-lines g c =
    drives_stopped c.args.seat c.loop-spare.lines.at_end (g.R.Source.remaining c.args.reader.now)
    (prepend_known c.loop-spare.lines.chunk (g.R.Source.remaining c.loop-spare.reader))
    (g.R.Source.remaining c.next.new.reader) (g.W.Sink.contents c.args.writer.now)
    (g.W.Sink.contents c.loop-spare.writer) c.loop-spare.seat c.in-Err.stop c.from.result c.loop-spare.invariant.1
    (λ is. c.in-Err.ensures.fault (ap Err is)) c.from.ensures

pub returns-in-Err-written-clause-lines : goal.returns-in-Err-written-clause-lines
returns-in-Err-written-clause-lines g c =
    drives_after c.args.seat c.loop-spare.lines.at_end c.next.new.self.at_end (g.R.Source.remaining c.args.reader.now)
    (prepend_known c.loop-spare.lines.chunk (g.R.Source.remaining c.loop-spare.reader))
    (prepend_known c.next.new.self.chunk (g.R.Source.remaining c.next.new.reader))
    (g.R.Source.remaining c.next.new.reader)
    (g.W.Sink.contents c.args.writer.now) (g.W.Sink.contents c.loop-spare.writer)
    (g.W.Sink.contents c.serve_line-next.new.writer) _ _ c.loop-spare.seat c.serve_line-next.result.0
    c.serve_line-next.result.1 c.in-Err-written.error c.from-in-Err-written.result c.loop-spare.invariant.1
    (c.in-Ok-true.ensures.line (ap Ok c.in-Ok-true.field-0-test)) c.bytes.ensures c.serve_line-next.ensures.served
    c.in-Err-written.is c.from-in-Err-written.ensures

pub returns-in-Err-written-clause-told : goal.returns-in-Err-written-clause-told
returns-in-Err-written-clause-told g c =
    told_unwritten c.in-Err-written.error c.from-in-Err-written.result _ _ c.from-in-Err-written.ensures
    (λ is. c.serve_line-next.ensures.failed (c.in-Err-written.is ∙ ap Err is))

pub loop-spare-preserved : goal.loop-spare-preserved
loop-spare-preserved g c = (
  c.in-Ok-true.ensures.ends,
  driving_after c.args.seat c.loop-spare.lines.at_end c.next.new.self.at_end (g.R.Source.remaining c.args.reader.now)
      (prepend_known c.loop-spare.lines.chunk (g.R.Source.remaining c.loop-spare.reader))
      (prepend_known c.next.new.self.chunk (g.R.Source.remaining c.next.new.reader))
      (g.W.Sink.contents c.args.writer.now) (g.W.Sink.contents c.loop-spare.writer)
      (g.W.Sink.contents c.serve_line-next.new.writer) _ _ c.loop-spare.seat c.serve_line-next.result.0
      c.serve_line-next.result.1 c.in_default-written.field-0 c.loop-spare.invariant.1
      (c.in-Ok-true.ensures.goes_on (ap Ok c.in-Ok-true.field-0-test))
      (c.in-Ok-true.ensures.line (ap Ok c.in-Ok-true.field-0-test)) c.bytes.ensures c.serve_line-next.ensures.served
      c.in_default-written.is,
)
