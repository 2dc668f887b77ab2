use Rattle.std.proofs.Common.{◌<◌, take}
use Rattle.std.specs.Prelude.{All}
use Rattle.wasm_ast.specs.declared.module.Segment.{Segment}
use Rattle.label_machine.proofs.sound.segments_ranged.Given as goal

abbrev pub invariant-loop-segment : goal.invariant-loop-segment
invariant-loop-segment l = All (λ (s : Segment). All (λ b. b < 256) s.bytes) (take l.segment-index l.segments)
