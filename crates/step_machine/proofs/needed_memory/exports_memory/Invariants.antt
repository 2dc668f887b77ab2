use Rattle.std.proofs.Common.{◌≡◌, drop}
use Rattle.step_machine.specs.Instantiation.{exports_memory}
use Rattle.step_machine.proofs.needed_memory.exports_memory.Given as goal

abbrev pub invariant-loop-export : goal.invariant-loop-export
invariant-loop-export l = exports_memory l.exports ≡ exports_memory (drop l.export-index l.exports)
