-- A line is at most one event, since its `op` and its other members determine the event.
use Rattle.std.proofs.Common.{◌≡◌, ℕ, List, codes, Some, sym, ap, subst, ◌∙◌, refl}
use Rattle.serde_json.specs.Data.{Data, string, object, Members, put}
use Rattle.task_requests.specs.declared.event.Event.{Event}
use Rattle.request_lines.specs.Request.{event_op, AsksEvent, IsEvent}
use Rattle.request_lines.specs.Inside.Parse.{without}
use Rattle.request_lines.proofs.TableLemmas.{one_asked}
use Rattle.request_lines.proofs.ParseLemmas.{rest_of, from_whole}

one_asked_event : (d : Data) (a b : Event) → AsksEvent d a → AsksEvent d b → a ≡ b
one_asked_event d a b x y =
    let word = event_op a in
    let rest : (all : Members) → d ≡ object all → x.0 ≡ without (codes "op") all =
    λ all is.
    let both : object (put (codes "op") (string word) x.0) ≡ object all = sym x.1 ∙ is in
    let same : put (codes "op") (string word) x.0 ≡ all = cc in
    sym (rest_of a (string word) x.0 x.2) ∙ ap (without (codes "op")) same in
    one_asked word x.0 a b (record { same = refl; keys = x.2 }) (from_whole d word x.0 x.1 rest b y)

pub one_event : (line : List ℕ) (a b : Event) → IsEvent line a → IsEvent line b → a ≡ b
one_event line a b x y =
    let both : Some x.value ≡ Some y.value = sym x.reads.value ∙ y.reads.value in
    let same : y.value ≡ x.value = cc in
    one_asked_event x.value a b x.asks (subst (λ d. AsksEvent d b) same y.asks)
