use Rattle.std.proofs.Common.{◌+◌, take}
use Rattle.std.proofs.KnownBytes.{Appends-kept}
use Rattle.request_lines.proofs.WriteLemmas.{appends_more, no_further, begins_take}
use Rattle.request_lines.proofs.stream.Watched.write_whole.Goals as goal

pub returns-in-Ok-eq0-clause-some : goal.returns-in-Ok-eq0-clause-some
returns-in-Ok-eq0-clause-some g c = rw c.fail-in-Ok-eq0.ensures.stream (
  take (c.loop-at.at + c.in-Ok-eq0.field-0) c.args.bytes.now,
  begins_take (c.loop-at.at + c.in-Ok-eq0.field-0) c.args.bytes.now,
  appends_more _ _ _ c.args.bytes.now c.loop-at.at c.in-Ok-eq0.field-0 c.loop-at.invariant.1
      c.in-Ok-eq0.ensures.bytes,
)

pub returns-then-not-is_interrupted-clause-some : goal.returns-then-not-is_interrupted-clause-some
returns-then-not-is_interrupted-clause-some g c = rw c.fail-then-not-is_interrupted.ensures.stream (
  take c.loop-at.at c.args.bytes.now,
  begins_take c.loop-at.at c.args.bytes.now,
  Appends-kept _ _ _ (take c.loop-at.at c.args.bytes.now) c.loop-at.invariant.1 c.in-Err.ensures.bytes,
)

pub returns-then-not-take_one-clause-some : goal.returns-then-not-take_one-clause-some
returns-then-not-take_one-clause-some g c = rw c.fail.ensures.stream
    (take c.loop-at.at c.args.bytes.now, begins_take c.loop-at.at c.args.bytes.now, c.loop-at.invariant.1)

pub loop-at-preserved-in-Ok : goal.loop-at-preserved-in-Ok
loop-at-preserved-in-Ok g c = (
  no_further c.args.bytes.now c.loop-at.at c.in-Ok.count c.loop-at.invariant.0 c.in-Ok.ensures.bound,
  appends_more _ _ _ c.args.bytes.now c.loop-at.at c.in-Ok.count c.loop-at.invariant.1 c.in-Ok.ensures.bytes,
)
