use Rattle.std.proofs.Common.{All, subst}
use Rattle.std.proofs.lemmas.List.{take_all}
use Rattle.std.proofs.lemmas.List.Elements.{All-more}
use Rattle.wasm_ast.specs.Ranged.{RangedSegment}
use Rattle.wasm_ast.proofs.module.segments_ranged.Goals as goal

pub loop-segment-preserved : goal.loop-segment-preserved
loop-segment-preserved c =
    All-more RangedSegment c.args.segments.now c.loop-segment.segment-index c.segment-item.result
    c.loop-segment-test.true c.loop-segment.invariant
    (subst RangedSegment c.segment-item.is c.ranged.ensures)

pub returns : goal.returns
returns c =
    subst (All RangedSegment) (take_all c.loop-segment.segment-index c.args.segments.now c.loop-segment-test.false)
    c.loop-segment.invariant
