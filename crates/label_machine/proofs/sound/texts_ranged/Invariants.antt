use Rattle.std.proofs.Common.{◌<◌, take}
use Rattle.std.specs.Prelude.{All}
use Rattle.label_machine.proofs.sound.texts_ranged.Given as goal

abbrev pub invariant-loop-text : goal.invariant-loop-text
invariant-loop-text l = All (All (λ b. b < 256)) (take l.text-index l.texts)
