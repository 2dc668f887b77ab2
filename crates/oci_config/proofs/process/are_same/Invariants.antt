use Rattle.std.proofs.Common.{◌≡◌, take}
use Rattle.oci_config.proofs.process.are_same.Given as goal

-- those before are the same
abbrev pub invariant-loop-i : goal.invariant-loop-i
invariant-loop-i l = take l.i l.texts ≡ take l.i l.others
