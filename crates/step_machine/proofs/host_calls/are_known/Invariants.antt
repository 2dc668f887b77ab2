use Rattle.std.proofs.Common.{◌≡◌, drop}
use Rattle.step_machine.specs.HostCalls.{all_known}
use Rattle.step_machine.proofs.host_calls.are_known.Given as goal

abbrev pub invariant-loop-import : goal.invariant-loop-import
invariant-loop-import l = all_known l.types l.imports ≡ all_known l.types (drop l.import-index l.imports)
