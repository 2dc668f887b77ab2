use Rattle.std.proofs.Common.{◌+◌, List, Option, Some, slice_set, slice_index_or, ap, ◌∙◌}
use Rattle.std.specs.Prelude.{ℕ}
use Rattle.step_machine.proofs.FirstStore.{one_func}
use Rattle.step_machine.proofs.store.write_funcs.Goals as goal

pub loop-i-preserved : goal.loop-i-preserved
loop-i-preserved c =
    let i = c.loop-i.i in
    ap (λ (t : List (Option ℕ)). slice_set t (c.args.start + i) (Some (slice_index_or c.args.funcs.now i 0)))
    c.loop-i.invariant
    ∙ one_func c.args.table.now c.args.start c.args.funcs.now i c.loop-i-test.true c.requires
