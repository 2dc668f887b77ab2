use Rattle.std.proofs.Common.{◌≡◌, ◌++◌, List}
use Rattle.std.specs.List.{AllZip}
use Rattle.callers.proofs.living.start_all.Given as goal

abbrev pub invariant-loop-caller : goal.invariant-loop-caller
invariant-loop-caller g l =
    ((asked : List _) × (asked ++ l.caller-iterator.rest.items ≡ l.initial.caller-iterator.rest.items)
    × AllZip (λ c t. t.promise.caller.value ≡ c) asked l.threads.items)
