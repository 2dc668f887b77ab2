use Rattle.std.proofs.Common.{◌+◌, length, arith}
use Rattle.std.specs.List.{sum_by}
use Rattle.label_machine.specs.Inside.Runs.{values_below, values_in}
use Rattle.label_machine.proofs.RoomLemmas.{sum_of_reversed, in_parts}
use Rattle.label_machine.proofs.room.left_by_frame.Goals as goal

-- src/room.rt:33:1
pub returns : goal.returns
returns c =
    let f = c.args.frame.now in
    let same = sum_of_reversed values_below c.as_slice.result.now f.labels c.as_slice.ensures in
    let one = c.in_ok-left.ensures in
    let two = c.in_ok-left-2.ensures in
    let a = c.len.ensures in
    let b = c.len-2.ensures in
    in_parts c.left_by_labels.result c.args.room c.in_ok-left-2.left (length f.locals.items + length f.operands)
    (sum_by values_below c.as_slice.result.now) (values_in f) (omega (arith, one, two, a, b)) (omega (arith, same))
    c.left_by_labels.ensures
