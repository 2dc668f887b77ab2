use Rattle.std.proofs.Common.{◌≡◌, length, drop}
use Rattle.linear_memory.specs.Memory.{Memory}
use Rattle.step_machine.specs.Instantiation.{are_segments_inside}
use Rattle.step_machine.proofs.instantiate.are_segments_inside.Given as goal

-- all are inside as the rest of them are
abbrev pub invariant-loop-segment : goal.invariant-loop-segment
invariant-loop-segment l =
    (memory : Memory) → l.size ≡ length memory.bytes
    → are_segments_inside memory l.segments ≡ are_segments_inside memory (drop l.segment-index l.segments)
