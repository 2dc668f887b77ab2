-- What a caller's line is answered, and what its seat has seen then.
use Rattle.std.specs.Prelude.{◌≡◌, ◌≢◌, ◌≤◌, ◌⊎◌, ℕ, List, length, Err, MatchBool}
use Rattle.wasm_ast.specs.declared.refusal.Refusal.TheVariants.{BadRequest, Busy, NoMemory}
use Rattle.task_requests.specs.declared.request.Request.{Request}
use Rattle.task_requests.specs.declared.request.Request.TheVariants.{Task}
use Rattle.task_requests.specs.declared.request.Ask.TheVariants.{Wait}
use Rattle.task_board.specs.Step.{Answer}
use Rattle.request_lines.specs.Shape.{max_line_bytes}
use Rattle.request_lines.specs.Request.{IsRequest}
use Rattle.request_lines.specs.Reply.{json_of, line_text}
use Rattle.call_journal.specs.Books.{is_journalled}
use Rattle.call_journal.specs.Seats.{Known, Extends}

-- a call of a seat: one that is journalled, by which its history goes on, or one that changes nothing
abbrev pub IsCall : (was now : Known) → Request → Answer → Type 0
IsCall was now r a = MatchBool (is_journalled a) (Extends was now r a) (now ≡ was)

-- a wait is made once it is due, so it is never answered that its task is busy
abbrev pub IsDue : Request → Answer → Type 0
IsDue (Task id Wait) a = a ≢ Err Busy
IsDue other a = Unit {0}

-- the line is this request, which is answered so
pub record IsCalled (was : Known) (line : List ℕ) (a : Answer) (now : Known) : Type 0 where
  pub request : Request
  pub is : IsRequest line request
  pub call : IsCall was now request a
  pub due : IsDue request a

-- the line is no request
pub record IsRefused (was : Known) (line : List ℕ) (a : Answer) (now : Known) : Type 0 where
  pub none : (r : Request) → IsRequest line r → ⊥
  pub refused : a ≡ Err BadRequest
  pub same : now ≡ was

-- memory ran out while the line was read; a line that is too long is not read
pub record IsUnread (was : Known) (line : List ℕ) (a : Answer) (now : Known) : Type 0 where
  pub short : length line ≤ max_line_bytes
  pub refused : a ≡ Err NoMemory
  pub same : now ≡ was

abbrev pub IsAnswered : Known → (line : List ℕ) → Answer → Known → Type 0
IsAnswered was line a now =
    IsCalled was line a now ⊎ (IsRefused was line a now ⊎ IsUnread was line a now)

-- a line is answered by this text
abbrev pub IsServed : Known → (line text : List ℕ) → Known → Type 0
IsServed was line text now =
    (a : Answer) × IsAnswered was line a now × (text ≡ line_text (json_of a))
