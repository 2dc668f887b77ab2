use Rattle.std.proofs.Common.{◌∙◌, List, ap, sym, subst, true, refl, inl}
use Rattle.std.specs.Prelude.{IsTrue}
use Rattle.task_requests.specs.declared.event.Event.TheVariants as event
use Rattle.task_requests.specs.declared.event.EventReply.TheVariants as answer
use Rattle.task_board.specs.BoardValue.{BoardValue}
use Rattle.task_board.specs.Loans.{Fits}
use Rattle.call_journal.specs.Replay.{IsReplay}
use Rattle.call_journal.specs.Books.{BookValue}
use Rattle.call_journal.specs.Desks.{Spot, spot_names}
use Rattle.call_journal.specs.Inside.Desks.{AllFit}
use Rattle.call_journal.proofs.DeskLemmas.{known_fits, returned_fit, other_fit}
use Rattle.call_journal.proofs.book.Book.give_back.Goals as goal

-- the loan is what was checked out at its place
pub receive-requires-clause-fits : goal.receive-requires-clause-fits
receive-requires-clause-fits g c =
    known_fits c.self.inside.desk c.self.inside.board.state c.args.receipt.slot c.args.loan c.args.receipt
    c.self.invariant.fit (c.if-end.ensures.known refl) c.requires.receipt

pub invariant_of-self : goal.invariant_of-self
invariant_of-self g c =
    let s = c.self.inside.board.state in
    let set = c.if-end.ensures.set refl in
    let fit =
    known_fits c.self.inside.desk s c.args.receipt.slot c.args.loan c.args.receipt c.self.invariant.fit
    (c.if-end.ensures.known refl) c.requires.receipt in
    record {
      replay =
          c.replays_go_on.ensures.slice c.self.inside.seen s (event.Return c.args.loan.id) (answer.Returned true)
          c.receive.new.self.state c.self.invariant.replay tt c.receive.ensures.step;
      few = c.self.invariant.few;
      total = c.self.invariant.total;
      parts = c.self.invariant.parts;
      seats = c.self.invariant.seats;
      unused = c.self.invariant.unused;
      places = set.names ∙ c.self.invariant.places;
      fit =
          returned_fit c.self.inside.desk c.end.new.desk s c.args.loan c.args.receipt c.receive.new.self.state
          c.sound.ensures fit c.receive.ensures.step c.self.invariant.fit c.requires.receipt set;
    }

pub returns-then-end-clause-unfit : goal.returns-then-end-clause-unfit
returns-then-end-clause-unfit g c not =
    let fit =
    known_fits c.self.inside.desk c.self.inside.board.state c.args.receipt.slot c.args.loan c.args.receipt
    c.self.invariant.fit (c.if-end.ensures.known refl) c.requires.receipt in
    absurd (not (subst (λ (b : BookValue). Fits c.args.loan b.board.tasks) c.self.view_is fit))

-- nothing was checked out there, and it fits all the same
pub invariant_of-self-then-fits : goal.invariant_of-self-then-fits
invariant_of-self-then-fits g c =
    let s = c.self.inside.board.state in
    let same = c.if-end.ensures.same refl in
    let fits : Fits c.args.loan s.tasks = c.fits.ensures.0 (subst IsTrue (sym c.if-fits.true) cc) in
    let step = c.receive-then-fits.ensures.step in
    let all =
    other_fit c.self.inside.desk s c.args.loan c.args.receipt c.receive-then-fits.new.self.state c.sound.ensures
    (λ f. step) (λ no. absurd (no fits)) (inl fits) c.self.invariant.fit c.requires.receipt
    (c.if-end.ensures.none refl) in
    record {
      replay =
          c.replays_go_on.ensures.slice c.self.inside.seen s (event.Return c.args.loan.id) (answer.Returned true)
          c.receive-then-fits.new.self.state c.self.invariant.replay tt step;
      few = c.self.invariant.few;
      total = c.self.invariant.total;
      parts = c.self.invariant.parts;
      seats = c.self.invariant.seats;
      unused = c.self.invariant.unused;
      places = ap spot_names same ∙ c.self.invariant.places;
      fit = subst (λ (ds : List Spot). AllFit ds c.receive-then-fits.new.self.state.tasks) (sym same) all;
    }

pub invariant_of-self-else-fits : goal.invariant_of-self-else-fits
invariant_of-self-else-fits g c =
    let same = c.if-end.ensures.same refl in
    let no : Fits c.args.loan c.self.inside.board.state.tasks → ⊥ =
    λ fits. let yes = subst IsTrue c.if-fits.false (c.fits.ensures.1 fits) in cc in
    let stays = (c.give_back.ensures.unfit no).0 in
    record {
      replay = subst (λ (b : BoardValue). IsReplay c.self.inside.seen b.state) (sym stays) c.self.invariant.replay;
      few = c.self.invariant.few;
      total = c.self.invariant.total;
      parts = c.self.invariant.parts;
      seats = c.self.invariant.seats;
      unused = c.self.invariant.unused;
      places = ap spot_names same ∙ c.self.invariant.places;
      fit =
          subst (λ (ds : List Spot). AllFit ds c.give_back.new.self.state.tasks) (sym same)
          (subst (λ (b : BoardValue). AllFit c.self.inside.desk b.state.tasks) (sym stays) c.self.invariant.fit);
    }
