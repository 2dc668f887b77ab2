use Rattle.std.proofs.Common.{◌≡◌, map, take}
use Rattle.step_machine.specs.Instantiation.{first_global}
use Rattle.step_machine.specs.Inside.FlatState.{word_of}
use Rattle.step_machine.proofs.store.first_globals.Given as goal

-- the words of the globals before
abbrev pub invariant-loop-global : goal.invariant-loop-global
invariant-loop-global l = l.words.items ≡ map word_of (map first_global (take l.global-index l.of.globals))
