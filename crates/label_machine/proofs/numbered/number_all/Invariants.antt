use Rattle.std.proofs.Common.{take}
use Rattle.std.specs.Prelude.{All}
use Rattle.label_machine.specs.Inside.Sound.{IsNumbered}
use Rattle.label_machine.proofs.numbered.number_all.Given as goal

abbrev pub invariant-loop-func : goal.invariant-loop-func
invariant-loop-func l = All IsNumbered (take l.func-index l.funcs)
