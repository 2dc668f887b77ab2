use Rattle.std.proofs.Common.{◌≡◌, map, take}
use Rattle.step_machine.specs.Instantiation.{first_global}
use Rattle.label_machine.proofs.first_store.first_globals.Given as goal

-- the values of the globals before
abbrev pub invariant-loop-global : goal.invariant-loop-global
invariant-loop-global l = l.values.items ≡ map first_global (take l.global-index l.of.globals)
