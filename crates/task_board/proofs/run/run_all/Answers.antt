use Rattle.std.proofs.Common.{◌++◌, ◌∷◌, [], List, sym, subst}
use Rattle.task_requests.specs.declared.event.EventReply.{EventReply}
use Rattle.task_board.specs.Run.{Run}
use Rattle.task_board.proofs.RunLemmas.{run_more}
use Rattle.task_board.proofs.run.run_all.Goals as goal

pub loop-event-preserved : goal.loop-event-preserved
loop-event-preserved c =
    let l = c.loop-event in
    let e = c.in_ok-reply.ensures in
    let run =
    run_more c.args.board.now.state l.yielded l.replies.items l.board.state c.in-Some.event c.in_ok-reply.reply
    c.happen.new.board.state l.invariant.run e.happens in
    record {
      run =
          subst
          (λ (rs : List EventReply). Run c.args.board.now.state (l.yielded ++ c.in-Some.event ∷ []) rs
          c.happen.new.board.state) (sym c.in_ok-push.ensures.items) run;
      covered = e.covered;
    }
