-- A script as it is run: its lines with a mark for each, and the events among them.
use Rattle.std.specs.Prelude.{◌≡◌, ℕ, List, [], ◌∷◌, ◌++◌}
use Rattle.wasm_ast.specs.declared.refusal.Refusal.TheVariants.{BadRequest}
use Rattle.task_requests.specs.declared.event.Event.{Event}
use Rattle.task_requests.specs.declared.event.EventReply.{EventReply}
use Rattle.request_lines.specs.Request.{IsEvent}
use Rattle.request_lines.specs.Reply.{event_data, refusal_data, line_text}
use Rattle.file_commands.specs.declared.replay.Mark.{Mark}
use Rattle.file_commands.specs.declared.replay.Mark.TheVariants as mark

-- what was made of each line, and the events among them in their order
abbrev pub AreMarked : List (List ℕ) → List Mark → List Event → Type 0
AreMarked [] [] [] = Unit {0}
AreMarked (line ∷ lines) (mark.Event ∷ marks) (event ∷ events) =
    IsEvent line event × AreMarked lines marks events
AreMarked (line ∷ lines) (mark.Bad ∷ marks) events =
    ((e : Event) → IsEvent line e → ⊥) × AreMarked lines marks events
AreMarked lines marks events = ⊥

-- one more line was read: its mark and, if it is one, its event were added
pub record Adds (line : List ℕ) (old_marks : List Mark) (old_events : List Event)
    (marks : List Mark) (events : List Event) : Type 0 where
  pub mark : List Mark
  pub event : List Event
  pub marked : marks ≡ old_marks ++ mark
  pub added : events ≡ old_events ++ event
  pub read : AreMarked (line ∷ []) mark event

-- the line of the next reply for each event, that of BadRequest for each bad line
abbrev pub replay_text : List Mark → List EventReply → List ℕ
replay_text [] replies = []
replay_text (mark.Event ∷ marks) [] = replay_text marks []
replay_text (mark.Event ∷ marks) (reply ∷ replies) =
    line_text (event_data reply) ++ replay_text marks replies
replay_text (mark.Bad ∷ marks) replies =
    line_text (refusal_data BadRequest) ++ replay_text marks replies
