use Rattle.std.proofs.Common.{sym, subst, append-nil, [], ◌∷◌}
use Rattle.std.specs.Io.KnownBytes.{Appends}
use Rattle.callers.specs.Ends.{AllEnded, all_replies}
use Rattle.callers.proofs.ending.write_answer.Goals as goal

pub returns-in-Some-clause-ended : goal.returns-in-Some-clause-ended
returns-in-Some-clause-ended g c is =
    subst (λ o. AllEnded (λ a. a.driven) (o ∷ [])) (sym c.in-Some.is) (c.write_kept.ensures.ended is, tt)

pub returns-in-Some-clause-written : goal.returns-in-Some-clause-written
returns-in-Some-clause-written g c is =
    subst
    (λ o. Appends (g.W.Sink.contents c.args.writer.now) (g.W.Sink.contents c.write_kept.new.writer)
    (all_replies (λ a. a.replies.items) (o ∷ []))) (sym c.in-Some.is)
    (subst
    (λ bytes. Appends (g.W.Sink.contents c.args.writer.now) (g.W.Sink.contents c.write_kept.new.writer) bytes)
    (sym (append-nil c.in-Some.answered.replies.items)) (c.write_kept.ensures.written is))
