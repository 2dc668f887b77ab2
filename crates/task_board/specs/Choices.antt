-- The choices that are open, and no others.
use Rattle.std.specs.Prelude.{◌≡◌, ℕ, List, ◌⊎◌, Ok, Err}
use Rattle.wasm_ast.specs.declared.refusal.Refusal.{Refusal}
use Rattle.wasm_ast.specs.declared.refusal.Refusal.TheVariants as refusal
use Rattle.task_requests.specs.declared.event.Event.{Event}
use Rattle.task_requests.specs.declared.event.Event.TheVariants as event
use Rattle.task_requests.specs.declared.request.Request.TheVariants as request
use Rattle.validator.specs.Faults.{IsInvalid}
use Rattle.task_board.specs.BoardState.{Task, BoardState, with_new_task}
use Rattle.text_assembler.specs.Modules.{IsTooDeep}
use Rattle.task_board.specs.Texts.{DenotesNone}
use Rattle.task_board.specs.Step.{Answer}

-- the events whose answer and effect are determined by the board: all but create and a put of a text
abbrev pub IsDetermined : Event → Type 0
IsDetermined (event.Call (request.PutText text)) = ⊥
IsDetermined (event.Call (request.Create config id)) = ⊥
IsDetermined other = Unit {0}

-- one of the two is BadModule and the other Limit
abbrev pub AreEither : Refusal → Refusal → Type 0
AreEither e e' = ((e ≡ refusal.BadModule) × (e' ≡ refusal.Limit))
    ⊎ ((e ≡ refusal.Limit) × (e' ≡ refusal.BadModule))

-- two refusals of one create: the same; BadModule and Limit, of bytes that spell no module and pass a limit;
-- or both Invalid, of a module that is not valid, at whatever places
abbrev pub AgreeOnRefusal : Refusal → Refusal → Type 0
AgreeOnRefusal e e' = (e ≡ e') ⊎ (AreEither e e' ⊎ (IsInvalid e × IsInvalid e'))

-- two answers to one create on one board, and the boards that they leave. Both are refusals, which leave the
-- board; or both accept it with the same task, each in an empty slot of its choice
abbrev pub AgreeOnCreate : BoardState → Answer → BoardState → Answer → BoardState → Type 0
AgreeOnCreate s (Err e) s1 (Err e') s2 = (s1 ≡ s) × (s2 ≡ s) × AgreeOnRefusal e e'
AgreeOnCreate s (Ok r) s1 (Ok r') s2 =
    (r ≡ r') × (t : Task) × (k : ℕ) × (k' : ℕ) × (s1 ≡ with_new_task s k t)
    × (s2 ≡ with_new_task s k' t)
AgreeOnCreate s r s1 r' s2 = ⊥

-- how a text that denotes no module may be refused: at any line and column; and as Limit, if more
-- than 256 blocks are open in it
abbrev pub IsFaultOf : (text : List ℕ) → Answer → Type 0
IsFaultOf text (Err (refusal.BadText line column)) = Unit {0}
IsFaultOf text (Err refusal.Limit) = IsTooDeep text
IsFaultOf text other = ⊥

-- two answers to one put of a text on one board: the same; or two refusals of a text that denotes no module
abbrev pub AgreeOnText : (text : List ℕ) → Answer → Answer → Type 0
AgreeOnText text r r' = (r ≡ r') ⊎ (DenotesNone text × IsFaultOf text r × IsFaultOf text r')
