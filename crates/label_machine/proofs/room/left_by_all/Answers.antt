use Rattle.std.proofs.Common.{arith}
use Rattle.std.specs.List.{sum_by}
use Rattle.step_machine.specs.Limits.{max_values}
use Rattle.step_machine.specs.Inside.Levels.{all_values}
use Rattle.label_machine.specs.Inside.Runs.{values_in, levels}
use Rattle.label_machine.proofs.RoomLemmas.{counted, all_counted, sum_of_reversed, in_parts, first_part}
use Rattle.label_machine.proofs.room.left_by_all.Goals as goal

-- src/room.rt:62:16
pub returns-in_err-left : goal.returns-in_err-left
returns-in_err-left c =
    let here = counted c.args.run.now.top in
    first_part c.from_residual.result max_values (values_in c.args.run.now.top) (all_values (levels c.args.run.now))
    c.from_residual.ensures c.in_err-left.ensures (omega (arith, here))

-- src/room.rt:57:1
pub returns : goal.returns
returns c =
    let here = counted c.args.run.now.top in
    let there = all_counted c.args.run.now.callers in
    let same = sum_of_reversed values_in c.as_slice.result.now c.args.run.now.callers c.as_slice.ensures in
    in_parts c.left_by_frames.result max_values c.in_ok-left.left (values_in c.args.run.now.top)
    (sum_by values_in c.as_slice.result.now) (all_values (levels c.args.run.now)) (c.in_ok-left.ensures)
    (omega (arith, here, there, same))
    c.left_by_frames.ensures
