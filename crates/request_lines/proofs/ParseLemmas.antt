-- Events by their `op` and their other members, and by their whole value.
use Rattle.std.proofs.Common.{◌≡◌, ◌≢◌, ℕ, List, Some, Result, Ok, Err, IfOk, codes, sym, ap, subst, ◌∙◌}
use Rattle.serde_json.specs.Data.{Data, string, object, Members, put}
use Rattle.serde_json.specs.Find.{get_member}
use Rattle.serde_json.proofs.Views.{get_member-put}
use Rattle.task_requests.specs.declared.event.Event.{Event}
use Rattle.request_lines.specs.declared.line_error.LineError.{LineError}
use Rattle.request_lines.specs.Request.{event_op, HasEventKeys, AsksEvent}
use Rattle.request_lines.specs.Inside.Parse.{Parses, without, IsEventAsked}
use Rattle.request_lines.proofs.TableLemmas.{row_of, no_op_key}

-- the keys of an event do not have `op` among them
pub rest_of :
    (e : Event) (d : Data) (ms : Members) → HasEventKeys ms e → without (codes "op") (put (codes "op") d ms) ≡ ms
rest_of e d ms h =
    let r = row_of e ms h in
    subst (λ m. without (codes "op") (put (codes "op") d m) ≡ m) (sym r.keys) (no_op_key r.op d r.values)

-- without `op` a value is no event
pub no_op : (d : Data) → ((op : List ℕ) (ms : Members) → d ≡ object ms → get_member (codes "op") ms ≢ Some (string op))
    → (e : Event) → AsksEvent d e → ⊥
no_op d none e a = none (event_op e) _ a.1 (get_member-put (codes "op") (string (event_op e)) a.0)

-- an event is read off the `op` and the rest of its value
pub from_whole : (d : Data) (op : List ℕ) (ms : Members) → d ≡ object (put (codes "op") (string op) ms)
    → ((all : Members) → d ≡ object all → ms ≡ without (codes "op") all)
    → (e : Event) → AsksEvent d e → IsEventAsked op ms e
from_whole d op ms whole rest e a =
    let first = get_member-put (codes "op") (string op) ms in
    let second = get_member-put (codes "op") (string (event_op e)) a.0 in
    let both : object (put (codes "op") (string op) ms) ≡ object (put (codes "op") (string (event_op e)) a.0) =
    sym whole ∙ a.1 in
    let same : op ≡ event_op e = cc in
    let others : ms ≡ a.0 = rest _ a.1 ∙ rest_of e (string (event_op e)) a.0 a.2 in
    record { same = same; keys = subst (λ m. HasEventKeys m e) (sym others) a.2 }

to_whole : (d : Data) (op : List ℕ) (ms : Members) → d ≡ object (put (codes "op") (string op) ms) → (e : Event)
    → IsEventAsked op ms e → AsksEvent d e
to_whole d op ms whole e a = (ms, whole ∙ ap (λ o. object (put (codes "op") (string o) ms)) a.same, a.keys)

ok_whole : (d : Data) (op : List ℕ) (ms : Members) → d ≡ object (put (codes "op") (string op) ms)
    → (r : Result Event LineError) → IfOk r (IsEventAsked op ms) → IfOk r (AsksEvent d)
ok_whole d op ms whole (Ok e) h = to_whole d op ms whole e h
ok_whole d op ms whole (Err e) h = tt

-- what is parsed of the parts is parsed of the whole
pub parses_whole : (d : Data) (op : List ℕ) (ms : Members) → d ≡ object (put (codes "op") (string op) ms)
    → ((all : Members) → d ≡ object all → ms ≡ without (codes "op") all)
    → (r : Result Event LineError) → Parses (IsEventAsked op ms) r → Parses (AsksEvent d) r
parses_whole d op ms whole rest r p =
    record { ok = ok_whole d op ms whole r p.ok; none = λ e x a. p.none e x (from_whole d op ms whole rest x a) }
