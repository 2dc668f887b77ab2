-- What a call of a seat does to the book and to the seat.
use Rattle.std.proofs.Common.{◌≡◌, ℕ, suc, ◌+◌, ◌<◌, ◌≤◌, List, [], ◌∷◌, ◌++◌, length, ap, sym, ◌∙◌, refl, subst, arith}
use Rattle.task_requests.specs.declared.request.Request.{Request}
use Rattle.task_board.specs.declared.prepared.Prepared.{Prepared}
use Rattle.task_board.specs.BoardState.{BoardState}
use Rattle.task_board.specs.Step.{Answer, Answers}
use Rattle.task_board.specs.Waiting.{waiting_after}
use Rattle.call_journal.specs.declared.entry.Entry.{Entry}
use Rattle.call_journal.specs.Books.{BookValue, HasCalled}
use Rattle.call_journal.specs.Records.{entry_on}
use Rattle.call_journal.specs.Replay.{IsReplay, IsLegal, MayAnswer}
use Rattle.call_journal.specs.Seats.{Known, GoesOn, most_entries}
use Rattle.call_journal.specs.Inside.Calls.{EndsWithCall, IsEntered}

-- calls keep the replay
abbrev pub KeptByCalls : Type 0
KeptByCalls =
    (h : List Entry) (s : BoardState) (seat : ℕ) (r : Request) (a : Answer) (s' : BoardState)
    → IsReplay h s → Answers s r a s' → IsReplay (h ++ entry_on s seat r ∷ []) s'

-- a book that is entered a call of a seat that has seen no other of its own
pub ends_call : (b : BookValue) (was : Known) (r : Request) (p : Prepared) (seen : List Entry)
    → IsEntered b was.number r p seen → GoesOn was.number was.history b.journal
    → EndsWithCall was.number was.history seen
ends_call b was r p seen is on =
    record { before = b.journal; entry = entry_on b.board was.number r; is = is.ends; seat = refl; on = on }

pub goes_on :
    (b : BookValue) (number : ℕ) (r : Request) (p : Prepared) (seen : List Entry) (a : Answer) (s' : BoardState)
    → KeptByCalls → IsEntered b number r p seen → IsReplay b.journal b.board → Answers b.board r a s' → IsReplay seen s'
goes_on b number r p seen a s' law is replay answers =
    subst (λ (h : List Entry). IsReplay h s') (sym is.ends) (law b.journal b.board number r a s' replay answers)

pub is_legal : (h : List Entry) (s : BoardState) → IsReplay h s → IsLegal h
is_legal h s is = (is.0, is.1)

pub has_called : (old new : BookValue) (was now : Known) (r : Request) (a : Answer) (p : Prepared) (seen : List Entry)
    → IsEntered old was.number r p seen → Answers old.board r a new.board
    → new.waiting ≡ waiting_after r a new.board.tasks old.waiting
    → new.journal ≡ seen → new.closed ≡ old.closed → new.seats ≡ old.seats → new.total ≡ old.total + 1
    → MayAnswer old.journal (entry_on old.board was.number r) a → GoesOn was.number was.history old.journal
    → now ≡ record { number = was.number; history = seen; share = was.share + 1 } → HasCalled old new was now r a
has_called old new was now r a p seen is answers waiting journal closed seats total may on now-is =
    let history = ap (λ (k : Known). k.history) now-is in
    record {
      journal = journal ∙ is.ends;
      answers = answers;
      waiting = waiting;
      closed = closed;
      seats = seats;
      total = total;
      seen = history ∙ sym journal;
      seat = record {
        number = ap (λ (k : Known). k.number) now-is;
        share = ap (λ (k : Known). k.share) now-is;
        before = old.journal;
        entry = entry_on old.board was.number r;
        on = on;
        ends = history ∙ is.ends;
        seat = refl;
        request = refl;
        answer = may;
      };
    }

one_more : (h : List Entry) (e : Entry) → length (h ++ e ∷ []) ≡ suc (length h)
one_more [] e = refl
one_more (x ∷ h) e = ap suc (one_more h e)

-- the ledger's total goes on to count the entries
pub counted :
    (h h' : List Entry) (e : Entry) (total total' : ℕ) → h' ≡ h ++ e ∷ [] → total ≡ length h → total' ≡ total + 1
    → total' ≡ length h'
counted h h' e total total' more was now =
    let n = ap length more ∙ one_more h e in omega (arith, n, was, now)

-- there is room for the entry of a call
pub few_more : (h h' : List Entry) (e : Entry) → h' ≡ h ++ e ∷ [] → length h < most_entries → length h' ≤ most_entries
few_more h h' e more few =
    let n = ap length more ∙ one_more h e in omega (arith, n, few)
