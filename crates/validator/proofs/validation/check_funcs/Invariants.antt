use Rattle.std.proofs.Common.{◌≡◌, [], All, take}
use Rattle.validator.specs.Typing.{ValidBody}
use Rattle.validator.proofs.validation.check_funcs.Given as goal

abbrev pub invariant-loop-i : goal.invariant-loop-i
invariant-loop-i l = record {
  items : l.funcs ≡ l.of.funcs;
  labels : l.labels ≡ [];
  valid : All (ValidBody l.of) (take l.i l.funcs);
}
