-- A script as it is read line by line, and its run as a session.
use Rattle.std.proofs.Common.{◌≡◌, ℕ, List, [], ◌∷◌, ◌++◌, Err, inl, inr, append_assoc, refl, sym, ap, ◌∙◌}
use Rattle.std.specs.List.{concat}
use Rattle.std.proofs.lemmas.List.{append-nil}
use Rattle.task_requests.specs.declared.event.Event.{Event}
use Rattle.file_commands.specs.declared.replay.Mark.{Mark}
use Rattle.file_commands.specs.declared.replay.Mark.TheVariants as mark
use Rattle.request_lines.specs.Request.{IsEvent}
use Rattle.request_lines.specs.Lines.{lines_of}
use Rattle.file_commands.specs.Inside.Script.{AreMarked, Adds, replay_text}
use Rattle.request_lines.specs.Reply.{event_data, refusal_data, line_text}
use Rattle.file_commands.specs.Replay.{IsReplied}
use Rattle.request_lines.specs.Session.{Session}
use Rattle.wasm_ast.specs.declared.refusal.Refusal.TheVariants.{BadRequest}
use Rattle.task_requests.specs.declared.event.EventReply.{EventReply}
use Rattle.task_requests.specs.declared.event.EventReply.TheVariants.{Called}
use Rattle.task_board.specs.BoardState.{BoardState}
use Rattle.task_board.specs.Run.{Run}

are_marked_append :
    (ls : List (List ℕ)) (ms : List Mark) (es : List Event) (bs : List (List ℕ)) (ns : List Mark) (fs : List Event)
    → AreMarked ls ms es → AreMarked bs ns fs → AreMarked (ls ++ bs) (ms ++ ns) (es ++ fs)
are_marked_append [] [] [] bs ns fs h g = g
are_marked_append (l ∷ ls) (mark.Event ∷ ms) (e ∷ es) bs ns fs h g = (h.0, are_marked_append ls ms es bs ns fs h.1 g)
are_marked_append (l ∷ ls) (mark.Bad ∷ ms) es bs ns fs h g = (h.0, are_marked_append ls ms es bs ns fs h.1 g)
are_marked_append _ _ _ bs ns fs h g = absurd h

-- one line more of the bytes
pub one_line_more : (bytes left rest line : List ℕ) (old_marks marks : List Mark) (old_events events : List Event)
    (done : List (List ℕ)) → lines_of bytes ≡ done ++ lines_of left → AreMarked done old_marks old_events
    → lines_of left ≡ line ∷ lines_of rest → Adds line old_marks old_events marks events
    → (more : List (List ℕ)) × (lines_of bytes ≡ more ++ lines_of rest) × AreMarked more marks events
one_line_more bytes left rest line old_marks marks old_events events done cut read here adds = (
  done ++ line ∷ [],
  cut ∙ (ap (λ r. done ++ r) here ∙ sym (append_assoc done (line ∷ []) (lines_of rest))),
  rw (adds.marked, adds.added)
      (are_marked_append done old_marks old_events (line ∷ []) adds.mark adds.event read adds.read),
)

pub adds_event :
    (line : List ℕ) (e : Event) (old_marks marks : List Mark) (old_events events : List Event) → IsEvent line e
    → marks ≡ old_marks ++ mark.Event ∷ [] → events ≡ old_events ++ e ∷ [] → Adds line old_marks old_events marks events
adds_event line e old_marks marks old_events events is marked added =
    record { mark = mark.Event ∷ []; event = e ∷ []; marked = marked; added = added; read = (is, tt) }

pub adds_bad :
    (line : List ℕ) (old_marks marks : List Mark) (old_events events : List Event) → ((e : Event) → IsEvent line e → ⊥)
    → marks ≡ old_marks ++ mark.Bad ∷ [] → events ≡ old_events → Adds line old_marks old_events marks events
adds_bad line old_marks marks old_events events bad marked same =
    record {
      mark = mark.Bad ∷ [];
      event = [];
      marked = marked;
      added = same ∙ sym (append-nil old_events);
      read = (bad, tt);
    }

-- the lines are answered one after another as the run of their events says
pub replay_session :
    (lines : List (List ℕ)) (marks : List Mark) (events : List Event) (replies : List EventReply) (s s' : BoardState)
    → AreMarked lines marks events → Run s events replies s'
    → (texts : List (List ℕ)) × Session IsReplied s lines texts s' × (replay_text marks replies ≡ concat texts)
replay_session [] [] [] [] s s' h run = ([], run, refl)
replay_session [] [] [] (r ∷ rs) s s' h run = absurd run
replay_session (l ∷ ls) (mark.Event ∷ ms) (e ∷ es) [] s s' h run = absurd run
replay_session (l ∷ ls) (mark.Event ∷ ms) (e ∷ es) (r ∷ rs) s s' h run =
    let rest = replay_session ls ms es rs run.0 s' h.1 run.2 in
    let answered : IsReplied s l (line_text (event_data r)) run.0 =
    (r, inl (record { event = e; is = h.0; happens = run.1 }), refl) in (
      line_text (event_data r) ∷ rest.0,
      (run.0, answered, rest.1),
      ap (λ t. line_text (event_data r) ++ t) rest.2,
    )
replay_session (l ∷ ls) (mark.Bad ∷ ms) events replies s s' h run =
    let rest = replay_session ls ms events replies s s' h.1 run in
    let answered : IsReplied s l (line_text (refusal_data BadRequest)) s =
    (Called (Err BadRequest), inr (record { none = h.0; refused = refl; same = refl }), refl) in (
      line_text (refusal_data BadRequest) ∷ rest.0,
      (s, answered, rest.1),
      ap (λ t. line_text (refusal_data BadRequest) ++ t) rest.2,
    )
replay_session _ _ _ replies s s' h run = absurd h
