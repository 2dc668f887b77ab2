use Rattle.std.proofs.Common.{◌≡◌, drop, option_copied}
use Rattle.step_machine.specs.HostCalls.{call_named}
use Rattle.step_machine.proofs.host_calls.call_named.Given as goal

abbrev pub invariant-loop-call : goal.invariant-loop-call
invariant-loop-call l =
    call_named l.name (option_copied l.found) l.calls
    ≡ call_named l.name (option_copied l.found) (drop l.call-index l.calls)
