use Rattle.std.proofs.Common.{◌≡◌, map, take, Some}
use Rattle.step_machine.specs.Instantiation.{with_items}
use Rattle.step_machine.proofs.store.write_funcs.Given as goal

-- those before are written
abbrev pub invariant-loop-i : goal.invariant-loop-i
invariant-loop-i l = l.table ≡ with_items l.fn.table l.start (map Some (take l.i l.funcs))
