use Rattle.std.proofs.Common.{◌≡◌, drop}
use Rattle.step_machine.specs.Instantiation.{needs_memory}
use Rattle.step_machine.proofs.needed_memory.needs_memory.Given as goal

abbrev pub invariant-loop-import : goal.invariant-loop-import
invariant-loop-import l = needs_memory l.imports ≡ needs_memory (drop l.import-index l.imports)
