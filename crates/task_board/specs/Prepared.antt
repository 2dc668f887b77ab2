-- Requests for which all memory has been taken. What is prepared, and how, is the board's own affair:
-- `prepare` promises it, `apply` asks for it, and nobody else reads it.
use Rattle.std.specs.Prelude.{Option}
use Rattle.wasm_ast.specs.declared.refusal.Refusal.{Refusal}
use Rattle.task_board.specs.declared.prepared.Prepared.{Prepared}
use Rattle.task_requests.specs.declared.request.Request.{Request}
use Rattle.task_board.specs.BoardValue.{BoardValue}
use Rattle.task_board.specs.Inside.Plans.{refusal_in, Plans}

-- why what was prepared will be refused, if it will
abbrev pub refusal_of : Prepared → Option Refusal
refusal_of p = refusal_in p.plan

-- the request is prepared so on a board with this state and this room
abbrev pub Prepares : BoardValue → Request → Prepared → Type 0
Prepares b r p = Plans b.state b.room r p.plan
