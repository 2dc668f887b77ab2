-- What is answered to the lines of a script.
use Rattle.std.specs.Prelude.{◌≡◌, ◌⊎◌, ℕ, List, Err}
use Rattle.std.specs.List.{concat}
use Rattle.wasm_ast.specs.declared.refusal.Refusal.TheVariants.{BadRequest}
use Rattle.task_requests.specs.declared.event.Event.{Event}
use Rattle.task_requests.specs.declared.event.EventReply.{EventReply}
use Rattle.task_requests.specs.declared.event.EventReply.TheVariants.{Called}
use Rattle.task_board.specs.BoardState.{BoardState, empty}
use Rattle.task_board.specs.Run.{Happens}
use Rattle.request_lines.specs.Lines.{lines_of}
use Rattle.request_lines.specs.Request.{IsEvent}
use Rattle.request_lines.specs.Reply.{event_data, line_text}
use Rattle.request_lines.specs.Session.{Session}

-- the line is this event, which happens with this reply
pub record IsPlayed (s : BoardState) (line : List ℕ) (reply : EventReply) (s' : BoardState) :
    Type 0 where
  pub event : Event
  pub is : IsEvent line event
  pub happens : Happens s event reply s'

-- the line is no event, and the board stays
pub record IsBad (s : BoardState) (line : List ℕ) (reply : EventReply) (s' : BoardState) :
    Type 0 where
  pub none : (e : Event) → IsEvent line e → ⊥
  pub refused : reply ≡ Called (Err BadRequest)
  pub same : s' ≡ s

-- a line of a script is answered by this text
abbrev pub IsReplied : BoardState → (line text : List ℕ) → BoardState → Type 0
IsReplied s line text s' = (reply : EventReply) × (IsPlayed s line reply s' ⊎ IsBad s line reply s')
    × (text ≡ line_text (event_data reply))

-- the bytes are the answers to the lines of a script, on a board of their own
pub record IsReplay (script out : List ℕ) : Type 0 where
  pub texts : List (List ℕ)
  pub last : BoardState
  pub session : Session IsReplied empty (lines_of script) texts last
  pub written : out ≡ concat texts
