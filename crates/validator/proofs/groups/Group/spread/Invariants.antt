use Rattle.std.proofs.Common.{◌≡◌, ◌++◌, reverse, take}
use Rattle.validator.specs.Inside.Algorithm.{knowns}
use Rattle.validator.proofs.groups.Group.spread.Given as goal

abbrev pub invariant-loop-val_type : goal.invariant-loop-val_type
invariant-loop-val_type l =
    reverse l.types.items
    ≡ knowns (reverse (take l.val_type-index l.val_type-items)) ++ reverse l.fn.types.items
