use Rattle.std.proofs.Common.{◌≡◌, take}
use Rattle.step_machine.proofs.breaks.are_same.Given as goal

-- those before are the same
abbrev pub invariant-loop-i : goal.invariant-loop-i
invariant-loop-i l = take l.i l.places ≡ take l.i l.others
