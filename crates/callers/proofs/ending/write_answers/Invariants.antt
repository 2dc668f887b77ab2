use Rattle.std.proofs.Common.{◌≡◌, ◌++◌, List}
use Rattle.std.specs.Io.KnownBytes.{Appends}
use Rattle.callers.specs.declared.caller.Driven.TheVariants.{End}
use Rattle.callers.specs.Ends.{AllEnded, all_replies}
use Rattle.callers.proofs.ending.write_answers.Given as goal

abbrev pub invariant-loop-answered : goal.invariant-loop-answered
invariant-loop-answered g l =
    ((passed : List _) × (passed ++ l.answered-iterator.rest.items ≡ l.initial.answered-iterator.rest.items)
    × (l.how ≡ End → AllEnded (λ a. a.driven) passed)
    × (l.how ≡ End → Appends (g.W.Sink.contents l.fn.writer) (g.W.Sink.contents l.writer)
    (all_replies (λ a. a.replies.items) passed)))
