use Rattle.std.proofs.Common.{All, take}
use Rattle.wasm_ast.specs.Ranged.{RangedSegment}
use Rattle.wasm_ast.proofs.module.segments_ranged.Given as goal

abbrev pub invariant-loop-segment : goal.invariant-loop-segment
invariant-loop-segment l = All RangedSegment (take l.segment-index l.segments)
