use Rattle.std.proofs.Common.{◌+◌, ◌<◌, List, length, sym, subst, ap, ◌∙◌, refl}
use Rattle.call_journal.specs.declared.entry.Entry.{Entry}
use Rattle.call_journal.specs.Books.{BookValue, HasCalled}
use Rattle.call_journal.specs.Replay.{IsLegal}
use Rattle.call_journal.specs.Seats.{GoesOn, most_entries}
use Rattle.call_journal.specs.Inside.Calls.{EndsWithCall, IsEntered}
use Rattle.call_journal.proofs.BookLemmas.{counted, ends_call, few_more, goes_on, has_called, is_legal}
use Rattle.call_journal.proofs.DeskLemmas.{answered_fit}
use Rattle.call_journal.proofs.book.Book.enter.Goals as goal

pub apply-answer-requires : goal.apply-answer-requires
apply-answer-requires g c =
    let was = c.args.seat.now in
    let r = c.requires.call.0 in
    let is =
    subst (λ (b : BookValue). IsEntered b was.number r c.args.prepared c.args.seen) (sym c.self.view_is)
    c.requires.call.1 in
    (r, is.prepares)

pub made-requires-clause-call : goal.made-requires-clause-call
made-requires-clause-call g c =
    let was = c.args.seat.now in
    subst (λ (h : List Entry). EndsWithCall was.number was.history h) (sym c.again.ensures)
    (ends_call c.args.self.now was c.requires.call.0 c.args.prepared c.args.seen c.requires.call.1 c.requires.on)

pub made-requires-clause-legal : goal.made-requires-clause-legal
made-requires-clause-legal g c =
    let was = c.args.seat.now in
    let r = c.requires.call.0 in
    let is =
    subst (λ (b : BookValue). IsEntered b was.number r c.args.prepared c.args.seen) (sym c.self.view_is)
    c.requires.call.1 in
    subst IsLegal (sym c.again.ensures)
    (is_legal c.args.seen c.apply-answer.new.self.state
    (goes_on _ was.number r c.args.prepared c.args.seen c.apply-answer.result c.apply-answer.new.self.state
    c.replays_go_on.ensures.call is c.self.invariant.replay (c.apply-answer.ensures.answers r is.prepares)))

pub invariant_of-self : goal.invariant_of-self
invariant_of-self g c =
    let was = c.args.seat.now in
    let r = c.requires.call.0 in
    let is =
    subst (λ (b : BookValue). IsEntered b was.number r c.args.prepared c.args.seen) (sym c.self.view_is)
    c.requires.call.1 in
    let few = subst (λ (b : BookValue). length b.journal < most_entries) (sym c.self.view_is) c.requires.room in
    let answers = c.apply-answer.ensures.answers r is.prepares in
    record {
      replay =
          goes_on _ was.number r c.args.prepared c.args.seen c.apply-answer.result
          c.apply-answer.new.self.state c.replays_go_on.ensures.call is c.self.invariant.replay answers;
      few = few_more c.self.inside.seen c.args.seen _ is.ends few;
      total =
          counted c.self.inside.seen c.args.seen _ c.self.inside.count.total c.made.new.count.total is.ends
          c.self.invariant.total c.made.ensures.total;
      parts = c.self.invariant.parts;
      seats = c.self.invariant.seats;
      unused = c.self.invariant.unused;
      places = c.self.invariant.places;
      fit =
          answered_fit c.self.inside.desk c.self.inside.board.state r c.apply-answer.result
          c.apply-answer.new.self.state c.sound.ensures answers c.self.invariant.fit;
    }

pub returns-clause-called : goal.returns-clause-called
returns-clause-called g c r entered =
    let was = c.args.seat.now in
    let is =
    subst (λ (b : BookValue). IsEntered b was.number r c.args.prepared c.args.seen) (sym c.self.view_is) entered in
    let on = subst (λ (b : BookValue). GoesOn was.number was.history b.journal) (sym c.self.view_is) c.requires.on in
    let made =
    c.made.ensures.seat
    ∙ ap (λ h. record { number = was.number; history = h; share = was.share + 1 }) c.again.ensures in
    let answers = c.apply-answer.ensures.answers r is.prepares in
    let new : BookValue = record {
      board = c.apply-answer.new.self.state;
      waiting = c.apply-answer.new.self.waiting;
      room = c.apply-answer.new.self.room;
      journal = c.args.seen;
      closed = c.self.inside.closed;
      seats = c.self.inside.seats;
      total = c.made.new.count.total;
    } in
    subst (λ (b : BookValue). HasCalled b new was c.made.new.self r c.apply-answer.result) c.self.view_is
    (has_called _ new was c.made.new.self r c.apply-answer.result c.args.prepared c.args.seen is answers
    (c.apply-answer.ensures.waiting r is.prepares) refl refl refl c.made.ensures.total
    (c.replays_go_on.ensures.answer c.self.inside.seen c.self.inside.board.state was.number r c.apply-answer.result
    c.apply-answer.new.self.state c.self.invariant.replay answers) on made)

pub returns-clause-journalled : goal.returns-clause-journalled
returns-clause-journalled g c =
    let was = c.args.seat.now in
    let r = c.requires.call.0 in
    let is =
    subst (λ (b : BookValue). IsEntered b was.number r c.args.prepared c.args.seen) (sym c.self.view_is)
    c.requires.call.1 in
    c.answers_are_journalled.ensures c.self.inside.board.state r c.apply-answer.result c.apply-answer.new.self.state
    (c.apply-answer.ensures.answers r is.prepares)
