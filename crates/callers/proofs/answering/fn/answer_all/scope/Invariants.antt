use Rattle.std.proofs.Common.{◌≡◌, ◌++◌, List, option_map, [], Some, IfSome}
use Rattle.std.specs.Prelude.{⊤}
use Rattle.callers.specs.Driving.{Drives, IsTold}
use Rattle.std.specs.List.{AllZip}
use Rattle.callers.proofs.answering.fn.answer_all.scope.Given as goal

abbrev pub invariant-loop-caller : goal.invariant-loop-caller
invariant-loop-caller g l =
    ((asked : List _) × (asked ++ l.caller-iterator.rest.items ≡ l.initial.caller-iterator.rest.items)
    × AllZip (λ c t. IfSome t (λ h. h.promise.caller.value ≡ c)) asked l.threads.items)

abbrev pub invariant-loop-thread : goal.invariant-loop-thread
invariant-loop-thread g l =
    ((joined : List _) × (joined ++ l.thread-iterator.rest.items ≡ l.initial.thread-iterator.rest.items)
    × AllZip (λ t a. IfSome a (λ a. (p : _) × (option_map (λ h. h.promise) t ≡ Some p)
    × (Drives a.driven p.caller.value.seat a.caller.seat (g.R.Source.remaining p.caller.value.reader)
    (g.R.Source.remaining a.caller.reader) (Some []) (Some a.replies.items)
    × IsTold a.driven (g.R.Source.has_failed a.caller.reader) ⊤))) joined l.all.items)
