use Rattle.std.proofs.Common.{◌≡◌, drop, true}
use Rattle.std.specs.Prelude.{fold}
use Rattle.step_machine.specs.Instantiation.{with_segment, are_segments_inside}
use Rattle.step_machine.proofs.store.write_segments.Given as goal

-- the segments that are left lead to the same memory, and are inside
abbrev pub invariant-loop-segment : goal.invariant-loop-segment
invariant-loop-segment l = record {
  leads : fold with_segment l.memory (drop l.segment-index l.segments) ≡ fold with_segment l.fn.memory l.segments;
  inside : are_segments_inside l.memory (drop l.segment-index l.segments) ≡ true;
}
