use Rattle.std.proofs.Common.{◌≡◌, ◌+◌, ◌∷◌, drop, sym, ap, ◌∙◌}
use Rattle.std.specs.Prelude.{fold}
use Rattle.std.proofs.lemmas.List.{at_drop_more}
use Rattle.wasm_ast.specs.declared.module.Segment.{Segment}
use Rattle.linear_memory.specs.Memory.{Memory}
use Rattle.step_machine.specs.Instantiation.{with_segment, are_segments_inside}
use Rattle.step_machine.proofs.FirstStore.{other_segments}
use Rattle.step_machine.proofs.store.write_segments.Goals as goal

pub loop-segment-preserved : goal.loop-segment-preserved
loop-segment-preserved c =
    let i = c.loop-segment.segment-index in
    let segments = c.args.segments.now in
    let s = c.segment-item.result in
    let m = c.loop-segment.memory in
    let others = drop (i + 1) segments in
    let leads :
    fold with_segment m (drop i segments) ≡ fold with_segment (with_segment m s) others =
    at_drop_more (fold with_segment m) segments i s c.loop-segment-test.true
    ∙ ap (λ (x : Segment). fold with_segment m (x ∷ others)) (sym c.segment-item.is) in
    let inside :
    are_segments_inside m (drop i segments) ≡ are_segments_inside m (s ∷ others) =
    at_drop_more (are_segments_inside m) segments i s c.loop-segment-test.true
    ∙ ap (λ (x : Segment). are_segments_inside m (x ∷ others)) (sym c.segment-item.is) in
    record {
      leads =
          ap (λ (n : Memory). fold with_segment n others) c.write_segment.ensures
          ∙ (sym leads ∙ c.loop-segment.invariant.leads);
      inside =
          ap (λ (n : Memory). are_segments_inside n others) c.write_segment.ensures
          ∙ other_segments m s others (sym inside ∙ c.loop-segment.invariant.inside);
    }
