-- What the parts of a parser promise.
use Rattle.std.specs.Prelude.{◌≡◌, ℕ, List, Result, Err, IfOk}
use Rattle.std.specs.Ordering.{nat_cmp, match_ordering}
use Rattle.std.specs.Cmp.Lexicographic.{slice_cmp}
use Rattle.serde_json.specs.Data.{Members, member, no_members}
use Rattle.wasm_ast.specs.declared.refusal.Refusal.{Refusal}
use Rattle.wasm_ast.specs.declared.refusal.Refusal.TheVariants.{BadRequest, NoMemory}
use Rattle.task_requests.specs.declared.event.Event.{Event}
use Rattle.request_lines.specs.declared.line_error.LineError.{LineError}
use Rattle.request_lines.specs.declared.line_error.LineError.TheVariants.{NoRequest, OutOfMemory}
use Rattle.request_lines.specs.Request.{event_op, HasEventKeys}

-- a value that the input is, or that there is no such value; memory may run out
pub record Parses {X : Type 0} (Is : X → Type 0) (r : Result X LineError) : Type 0 where
  pub ok : IfOk r Is
  pub none : r ≡ Err NoRequest → (x : X) → Is x → ⊥

-- what a line is answered that could not be read
abbrev pub refusal_of : LineError → Refusal
refusal_of NoRequest = BadRequest
refusal_of OutOfMemory = NoMemory

-- the members without the first of this key
abbrev pub without : List ℕ → Members → Members
without k no_members = no_members
without k (member l d ms) = match_ordering (slice_cmp nat_cmp k l) (member l d (without k ms)) ms
    (member l d (without k ms))

-- an event with this `op` and these other members
pub record IsEventAsked (op : List ℕ) (ms : Members) (e : Event) : Type 0 where
  pub same : op ≡ event_op e
  pub keys : HasEventKeys ms e
