use Rattle.std.proofs.Common.{◌≡◌, drop}
use Rattle.step_machine.specs.Instantiation.{names_one}
use Rattle.step_machine.proofs.needed_memory.names_one.Given as goal

abbrev pub invariant-loop-call : goal.invariant-loop-call
invariant-loop-call l = names_one l.name l.calls ≡ names_one l.name (drop l.call-index l.calls)
