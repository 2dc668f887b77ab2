use Rattle.std.proofs.Common.{◌≡◌, ◌≢◌, ℕ, List, Some, Result, Ok, Err, IfOk, rules, sym, ◌∙◌, ap, subst}
use Rattle.serde_json.specs.Data.{Data}
use Rattle.serde_json.specs.View.{view, members_view}
use Rattle.task_requests.specs.declared.event.Event.{Event}
use Rattle.request_lines.specs.declared.line_error.LineError.{LineError}
use Rattle.request_lines.specs.declared.table.Key.{Key}
use Rattle.request_lines.specs.declared.values.Values.{Values}
use Rattle.request_lines.specs.Shape.{IsJson}
use Rattle.request_lines.specs.Request.{AsksEvent, IsEvent}
use Rattle.request_lines.specs.Table.{all_ops, op_with}
use Rattle.request_lines.specs.Inside.Parse.{Parses}
use Rattle.request_lines.specs.Inside.Values.{keyed}
use Rattle.request_lines.proofs.ParseLemmas.{no_op, from_whole, parses_whole}
use Rattle.request_lines.proofs.TableLemmas.{has_word, no_such_word, no_such_keys, parses_row}
use Rattle.request_lines.proofs.parse_event.read_event_line.Goals as goal
use Rattle.request_lines.proofs.parse_event.read_event_line.Goals.{After-drop-word-inside-2}

pub returns-in_err-value-clause-none : goal.returns-in_err-value-clause-none
returns-in_err-value-clause-none c e x is = c.read_value.ensures.none (search rules) is.value is.reads

pub returns-in_default-clause-none : goal.returns-in_default-clause-none
returns-in_default-clause-none c e x is =
    let v = view c.in_ok-value.value in
    let both : Some is.value ≡ Some v = sym is.reads.value ∙ c.in_ok-value.ensures.value.value in
    let same : is.value ≡ v = cc in
    no_op v c.in_default.ensures.none x (subst (λ d. AsksEvent d x) same is.asks)

pub returns-in_default-with_word-clause-none : goal.returns-in_default-with_word-clause-none
returns-in_default-with_word-clause-none c e x is =
    let v = view c.in_ok-value.value in
    let word = c.in-Some.word in
    let ms = members_view c.in-Some.members.entries in
    let both : Some is.value ≡ Some v = sym is.reads.value ∙ c.in_ok-value.ensures.value.value in
    let same : is.value ≡ v = cc in
    no_such_word word ms (sym (c.in_default-with_word.ensures ∙ ap (λ w. op_with w all_ops) c.as_str.ensures)) x
    (from_whole v word ms c.in-Some.ensures.some c.in-Some.ensures.rest x
    (subst (λ d. AsksEvent d x) same is.asks))

pub returns-in_default-take_values-clause-none : goal.returns-in_default-take_values-clause-none
returns-in_default-take_values-clause-none c e x is =
    let v = view c.in_ok-value.value in
    let word = c.in-Some.word in
    let op = c.in-Some-with_word.op in
    let ms = members_view c.in-Some.members.entries in
    let both : Some is.value ≡ Some v = sym is.reads.value ∙ c.in_ok-value.ensures.value.value in
    let same : is.value ≡ v = cc in
    no_such_keys op word ms
    (has_word word all_ops op
    (sym (c.in-Some-with_word.ensures ∙ ap (λ w. op_with w all_ops) c.as_str.ensures)))
    (subst (λ (keys : List Key). (w : Values) → ms ≢ keyed keys w) c.keys.ensures
    c.in_default-take_values.ensures.none)
    x
    (from_whole v word ms c.in-Some.ensures.some c.in-Some.ensures.rest x
    (subst (λ d. AsksEvent d x) same is.asks))

-- what is parsed of the op and its values is parsed of the whole value
parsed : (c : After-drop-word-inside-2) → Parses (AsksEvent (view c.in_ok-value.value)) c.make_event.result
parsed c =
    let word = c.in-Some.word in
    let op = c.in-Some-with_word.op in
    let values = c.in-Some-take_values.values in
    let ms = members_view c.in-Some.members.entries in
    parses_whole (view c.in_ok-value.value) word ms c.in-Some.ensures.some c.in-Some.ensures.rest c.make_event.result
    (parses_row op values word ms c.make_event.result
    (has_word word all_ops op
    (sym (c.in-Some-with_word.ensures ∙ ap (λ w. op_with w all_ops) c.as_str.ensures)))
    (c.in-Some-take_values.ensures.some ∙ ap (λ (keys : List Key). keyed keys values) c.keys.ensures)
    c.make_event.ensures)

ok_line : (line : List ℕ) (v : Data) (r : Result Event LineError) → IsJson line v → IfOk r (AsksEvent v)
    → IfOk r (IsEvent line)
ok_line line v (Ok e) reads asks = record { value = v; reads = reads; asks = asks }
ok_line line v (Err e) reads asks = tt

pub returns-clause-ok : goal.returns-clause-ok
returns-clause-ok c =
    ok_line c.args.line.now (view c.in_ok-value.value) c.make_event.result c.in_ok-value.ensures.value (parsed c).ok

pub returns-clause-none : goal.returns-clause-none
returns-clause-none c e x is =
    let v = view c.in_ok-value.value in
    let both : Some is.value ≡ Some v = sym is.reads.value ∙ c.in_ok-value.ensures.value.value in
    let same : is.value ≡ v = cc in
    (parsed c).none e x (subst (λ d. AsksEvent d x) same is.asks)
