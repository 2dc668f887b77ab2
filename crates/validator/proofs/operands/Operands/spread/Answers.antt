use Rattle.std.proofs.Common.{◌-◌, length, take, drop, reverse, ◌++◌, ap, ◌∙◌}
use Rattle.validator.specs.Inside.Blocks.{group_types}
use Rattle.validator.proofs.GroupLemmas.{types_seen}
use Rattle.validator.proofs.operands.Operands.spread.Goals as goal

pub loop-group-preserved : goal.loop-group-preserved
loop-group-preserved c =
    let groups = take (length c.deref.result.now - c.self.inside.base) (drop c.self.inside.base c.deref.result.now) in
    record {
      all = c.loop-group.invariant.all;
      seen =
          types_seen groups c.loop-group.group-index c.group-item.result (reverse c.loop-group.types.items)
          (reverse c.spread.new.types.items) c.loop-group-test.true c.loop-group.invariant.seen
          (c.in_ok-spread.ensures
          ∙ ap (λ g. group_types g ++ reverse c.loop-group.types.items) c.group-item.is);
    }
