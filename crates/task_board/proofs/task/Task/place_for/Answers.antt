use Rattle.std.proofs.Common.{◌≡◌, true, false, refl, rules}
use Rattle.step_machine.specs.Places.{has_place}
use Rattle.task_lifecycle.specs.Lifecycle.{allowed}
use Rattle.task_board.proofs.task.Task.place_for.Goals as goal

pub returns-then-not-allows-clause-err : goal.returns-then-not-allows-clause-err
returns-then-not-allows-clause-err c =
    let cannot : allowed c.args.call c.args.self.now.status ≡ false = search rules in
    rw cannot refl

pub returns-in-Some-clause-ok : goal.returns-in-Some-clause-ok
returns-in-Some-clause-ok c =
    let can : allowed c.args.call c.args.self.now.status ≡ true = search rules in
    let there = c.in-Some.ensures.some.1 in
    (c.in-Some.ensures.some.0, rw (can, there) refl)

pub returns-in-None-clause-err : goal.returns-in-None-clause-err
returns-in-None-clause-err c =
    let can : allowed c.args.call c.args.self.now.status ≡ true = search rules in
    let off : has_place c.args.self.now.module c.args.func c.args.place ≡ false = search rules in
    rw (can, off) refl
