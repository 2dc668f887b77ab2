use Rattle.std.proofs.Common.{refl, sym, subst, ap, ◌∙◌, ◌++◌, [], ◌∷◌, append_assoc}
use Rattle.std.specs.Io.KnownBytes.{Appends}
use Rattle.callers.specs.Ends.{AllEnded, all_replies}
use Rattle.callers.proofs.DriveLemmas.{appends_none}
use Rattle.callers.proofs.EndLemmas.{ended_more, written_more}
use Rattle.callers.proofs.PairLemmas.{passed-all}
use Rattle.callers.proofs.ending.write_answers.Goals as goal

pub loop-answered-init : goal.loop-answered-init
loop-answered-init g c = ([], refl, λ _. tt, λ _. appends_none (g.W.Sink.contents c.args.writer.now))

pub loop-answered-preserved : goal.loop-answered-preserved
loop-answered-preserved g c =
    let inv = c.loop-answered.invariant in
    let x = c.in-Some.answered in
    let both = c.first_fault-how.ensures in (
      inv.0 ++ x ∷ [],
      append_assoc inv.0 (x ∷ []) c.next.new.self.rest.items
          ∙ ap (λ r. inv.0 ++ r) (sym c.in-Some.ensures.steps.0) ∙ inv.1,
      λ is. ended_more (λ a. a.driven) inv.0 (x ∷ []) (inv.2 (both.0 is).0)
          (c.write_answer-one.ensures.ended (both.0 is).1),
      λ is. written_more (λ a. a.replies.items) inv.0 (x ∷ []) (g.W.Sink.contents c.args.writer.now)
          (g.W.Sink.contents c.loop-answered.writer) (g.W.Sink.contents c.write_answer-one.new.writer)
          (inv.3 (both.0 is).0) (c.write_answer-one.ensures.written (both.0 is).1),
    )

pub returns-clause-ended : goal.returns-clause-ended
returns-clause-ended g c is =
    let inv = c.loop-answered.invariant in
    subst (AllEnded (λ a. a.driven))
    (passed-all inv.0 c.loop-answered.answered-iterator.rest.items c.args.all.items
    (sym c.loop-answered.answered-iterator.rest.ok.0 ∙ c.in-None.ensures.steps.0)
    (inv.1 ∙ c.into_iter-answered-iterator.ensures.into_iter_gives.0)) (inv.2 is)

pub returns-clause-written : goal.returns-clause-written
returns-clause-written g c is =
    let inv = c.loop-answered.invariant in
    subst
    (λ xs. Appends (g.W.Sink.contents c.args.writer.now) (g.W.Sink.contents c.loop-answered.writer)
    (all_replies (λ a. a.replies.items) xs))
    (passed-all inv.0 c.loop-answered.answered-iterator.rest.items c.args.all.items
    (sym c.loop-answered.answered-iterator.rest.ok.0 ∙ c.in-None.ensures.steps.0)
    (inv.1 ∙ c.into_iter-answered-iterator.ensures.into_iter_gives.0)) (inv.3 is)
