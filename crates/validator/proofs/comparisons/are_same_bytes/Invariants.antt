use Rattle.std.proofs.Common.{◌≡◌, IsTrue, take}
use Rattle.validator.proofs.comparisons.are_same_bytes.Given as goal

-- those before are the same
abbrev pub invariant-loop-i : goal.invariant-loop-i
invariant-loop-i l = IsTrue l.same → take l.i l.bytes ≡ take l.i l.others
