-- The table of lines beside the events of the definitions: each has a row there, and the ops differ.
use Rattle.std.proofs.lemmas.Slice.Eq.{bytes_eq-Decides}
use Rattle.std.proofs.lemmas.Bool.Decides.{nat_tests}
use Rattle.std.proofs.Common.{◌≡◌, ◌≢◌, ◌≤◌, ◌&&◌, ℕ, List, [], ◌∷◌, Bool, true, false, bytes_eq, nat_le, if◌then◌else◌, Option, Some, None, Result, Ok, Err, IfOk, codes, refl, sym, ap, subst, ◌∙◌, arith}
use Rattle.hex.specs.Hex.{decode_of}
use Rattle.hex.specs.declared.error.FromHexError.{FromHexError}
use Rattle.serde_json.specs.Data.{Data, Members, put}
use Rattle.task_requests.specs.Limits.{max_budget}
use Rattle.task_requests.specs.declared.event.Event.{Event}
use Rattle.task_requests.specs.declared.event.Event.TheVariants as happening
use Rattle.task_requests.specs.declared.request.Request.TheVariants as request
use Rattle.task_requests.specs.declared.request.Ask.TheVariants as ask
use Rattle.request_lines.specs.declared.line_error.LineError.{LineError}
use Rattle.request_lines.specs.declared.table.Op.{Op}
use Rattle.request_lines.specs.declared.table.Op.TheVariants.{Put, PutText, Remove, LeaseCreate, LeaseAdd, LeaseDelete, Gc, Create, Start, Pause, Resume, Kill, Delete, State, Wait, Output, Break, Unbreak, Step, Inspect, Peek, Take, Return}
use Rattle.request_lines.specs.declared.values.Values.{Values}
use Rattle.request_lines.specs.Request.{event_op, HasEventKeys}
use Rattle.request_lines.specs.Table.{all_ops, event_with, op_word, op_keys, op_with}
use Rattle.request_lines.specs.Inside.Parse.{Parses, IsEventAsked, without}
use Rattle.request_lines.specs.Inside.Values.{keyed, put_read, take_read, event_read}

-- ---- ops by their words

pub found : (op : Op) → op_with (op_word op) all_ops ≡ Some op
found Put = refl
found op = refl

pub own_word : (op : Op) (bytes : List ℕ) (v : Values) → event_op (event_with op bytes v) ≡ op_word op
own_word Put bytes v = refl
own_word op bytes v = refl

pub same_op : (a b : Op) → op_word a ≡ op_word b → a ≡ b
same_op a b e =
    let both : Some a ≡ Some b = sym (found a) ∙ (ap (λ w. op_with w all_ops) e ∙ found b) in
    cc

has_word_at : (b : Bool) (word : List ℕ) (o op : Op) (later : Option Op) → bytes_eq (op_word o) word ≡ b
    → (later ≡ Some op → op_word op ≡ word) → (if b then Some o else later) ≡ Some op → op_word op ≡ word
has_word_at true word o op later is more e =
    let same : o ≡ op = cc in
    subst (λ (x : Op). op_word x ≡ word) same ((bytes_eq-Decides (op_word o) word).0 is)
has_word_at false word o op later is more e = more e

-- one that is found with a word has it
pub has_word : (word : List ℕ) (ops : List Op) (op : Op) → op_with word ops ≡ Some op → op_word op ≡ word
has_word word [] op e = cc
has_word word (o ∷ os) op e = has_word_at _ word o op _ refl (has_word word os op) e

-- ---- the keys of an op

-- none of them is `op`
pub no_op_key : (op : Op) (d : Data) (v : Values)
    → without (codes "op") (put (codes "op") d (keyed (op_keys op) v)) ≡ keyed (op_keys op) v
no_op_key Put d v = refl
no_op_key op d v = refl

-- the members determine the event
same_event : (op : Op) (v w : Values) → keyed (op_keys op) v ≡ keyed (op_keys op) w → event_read op v ≡ event_read op w
same_event Put v w e = let text : v.text ≡ w.text = cc in ap (λ d. put_read (decode_of d)) text
same_event Take v w e =
    let id : v.id ≡ w.id = cc in
    let budget : v.first ≡ w.first = cc in
    rw (id, budget) refl
same_event op v w e = cc

same_read :
    (a b : Op) (v w : Values) → a ≡ b → keyed (op_keys a) v ≡ keyed (op_keys b) w → event_read a v ≡ event_read b w
same_read a b v w same =
    subst (λ (o : Op). keyed (op_keys a) v ≡ keyed (op_keys o) w → event_read a v ≡ event_read o w) same
    (same_event a v w)

-- ---- from a row to its event

put_sound : (r : Result (List ℕ) FromHexError) (v : Values) (e : Event) → decode_of v.text ≡ r → put_read r ≡ Some e
    → IsEventAsked (op_word Put) (keyed (op_keys Put) v) e
put_sound (Ok bytes) v e decodes is =
    let same : happening.Call (request.Put bytes) ≡ e = cc in
    subst (IsEventAsked (op_word Put) (keyed (op_keys Put) v)) same
    (record { same = refl; keys = (v.text, refl, decodes) })
put_sound (Err x) v e decodes is = cc

take_sound : (b : Bool) (v : Values) (e : Event) → (nat_le 1 v.first && nat_le v.first max_budget) ≡ b
    → (if b then Some (happening.Take v.id v.first) else None) ≡ Some e
    → IsEventAsked (op_word Take) (keyed (op_keys Take) v) e
take_sound true v e within is =
    let same : happening.Take v.id v.first ≡ e = cc in
    subst (IsEventAsked (op_word Take) (keyed (op_keys Take) v)) same
    (record { same = refl; keys = (refl, grind (arith, nat_tests), grind (arith, nat_tests)) })
take_sound false v e within is = cc

sound :
    (op : Op) (v : Values) (e : Event) → event_read op v ≡ Some e → IsEventAsked (op_word op) (keyed (op_keys op) v) e
sound Put v e is = put_sound _ v e refl is
sound Take v e is = take_sound _ v e refl is
sound op v e is =
    let same : event_with op [] v ≡ e = cc in
    subst (IsEventAsked (op_word op) (keyed (op_keys op) v)) same (record { same = refl; keys = refl })

-- ---- from an event to its row

-- an event with these other members, by its row
pub record Row (e : Event) (ms : Members) : Type 0 where
  pub op : Op
  pub values : Values
  pub word : event_op e ≡ op_word op
  pub keys : ms ≡ keyed (op_keys op) values
  pub read : event_read op values ≡ Some e

row : {e : Event} {ms : Members} (op : Op) (values : Values) → event_op e ≡ op_word op → ms ≡ keyed (op_keys op) values
    → event_read op values ≡ Some e → Row e ms
row op values word keys read = record { op = op; values = values; word = word; keys = keys; read = read }

abbrev values : (id text : List ℕ) → (first second : ℕ) → Values
values id text first second = record { id = id; text = text; first = first; second = second }

in_range : (id : List ℕ) (budget : ℕ) → 1 ≤ budget → budget ≤ max_budget
    → take_read id budget ≡ Some (happening.Take id budget)
in_range id budget least most =
    let low : nat_le 1 budget ≡ true = grind (arith, nat_tests) in
    let high : nat_le budget max_budget ≡ true = grind (arith, nat_tests) in
    rw (low, high) refl

pub row_of : (e : Event) (ms : Members) → HasEventKeys ms e → Row e ms
row_of (happening.Call (request.Put bytes)) ms h = row Put (values [] h.0 0 0) refl h.1 (ap put_read h.2)
row_of (happening.Call (request.PutText text)) ms h = row PutText (values [] text 0 0) refl h refl
row_of (happening.Call (request.Remove digest)) ms h = row Remove (values [] digest 0 0) refl h refl
row_of (happening.Call (request.LeaseCreate id)) ms h = row LeaseCreate (values id [] 0 0) refl h refl
row_of (happening.Call (request.LeaseAdd digest id)) ms h = row LeaseAdd (values id digest 0 0) refl h refl
row_of (happening.Call (request.LeaseDelete id)) ms h = row LeaseDelete (values id [] 0 0) refl h refl
row_of (happening.Call request.Gc) ms h = row Gc (values [] [] 0 0) refl h refl
row_of (happening.Call (request.Create config id)) ms h = row Create (values id config 0 0) refl h refl
row_of (happening.Call (request.Task id ask.Start)) ms h = row Start (values id [] 0 0) refl h refl
row_of (happening.Call (request.Task id ask.Pause)) ms h = row Pause (values id [] 0 0) refl h refl
row_of (happening.Call (request.Task id ask.Resume)) ms h = row Resume (values id [] 0 0) refl h refl
row_of (happening.Call (request.Task id (ask.Kill signal))) ms h = row Kill (values id [] signal 0) refl h refl
row_of (happening.Call (request.Task id ask.Delete)) ms h = row Delete (values id [] 0 0) refl h refl
row_of (happening.Call (request.Task id ask.State)) ms h = row State (values id [] 0 0) refl h refl
row_of (happening.Call (request.Task id ask.Wait)) ms h = row Wait (values id [] 0 0) refl h refl
row_of (happening.Call (request.Task id (ask.Output stream))) ms h = row Output (values id [] stream 0) refl h refl
row_of (happening.Call (request.Task id (ask.Break func place))) ms h = row Break (values id [] func place) refl h refl
row_of (happening.Call (request.Task id (ask.Unbreak func place))) ms h =
    row Unbreak (values id [] func place) refl h refl
row_of (happening.Call (request.Task id (ask.Step count))) ms h = row Step (values id [] count 0) refl h refl
row_of (happening.Call (request.Task id ask.Inspect)) ms h = row Inspect (values id [] 0 0) refl h refl
row_of (happening.Call (request.Task id (ask.Peek address length))) ms h =
    row Peek (values id [] address length) refl h refl
row_of (happening.Take id budget) ms h = row Take (values id [] budget 0) refl h.0 (in_range id budget h.1 h.2)
row_of (happening.Return id) ms h = row Return (values id [] 0 0) refl h refl

-- the word and the other members determine the event
pub one_asked : (word : List ℕ) (ms : Members) (a b : Event) → IsEventAsked word ms a → IsEventAsked word ms b → a ≡ b
one_asked word ms a b x y =
    let r = row_of a ms x.keys in
    let s = row_of b ms y.keys in
    let op : r.op ≡ s.op = same_op r.op s.op (sym r.word ∙ (sym x.same ∙ (y.same ∙ s.word))) in
    let both : Some a ≡ Some b =
    sym r.read ∙ (same_read r.op s.op r.values s.values op (sym r.keys ∙ s.keys) ∙ s.read) in
    cc

-- ---- what a parser may answer by its row

-- no event has a word that no op has
pub no_such_word : (word : List ℕ) (ms : Members) → op_with word all_ops ≡ None → (e : Event)
    → IsEventAsked word ms e → ⊥
no_such_word word ms none e a =
    let r = row_of e ms a.keys in
    let both : None ≡ Some r.op = sym none ∙ (ap (λ w. op_with w all_ops) (a.same ∙ r.word) ∙ found r.op) in
    cc

pub no_such_keys :
    (op : Op) (word : List ℕ) (ms : Members) → op_word op ≡ word → ((v : Values) → ms ≢ keyed (op_keys op) v)
    → (e : Event) → IsEventAsked word ms e → ⊥
no_such_keys op word ms is none e a =
    let r = row_of e ms a.keys in
    let same : op ≡ r.op = same_op op r.op (is ∙ (a.same ∙ r.word)) in
    none r.values (r.keys ∙ ap (λ (o : Op). keyed (op_keys o) r.values) (sym same))

sound_if_ok : (op : Op) (v : Values) (r : Result Event LineError) → IfOk r (λ e. event_read op v ≡ Some e)
    → IfOk r (λ e. IsEventAsked (op_word op) (keyed (op_keys op) v) e)
sound_if_ok op v (Ok e) is = sound op v e is
sound_if_ok op v (Err x) is = tt

-- the row is found, and its keys are there
pub parses_row : (op : Op) (v : Values) (word : List ℕ) (ms : Members) (r : Result Event LineError) → op_word op ≡ word
    → ms ≡ keyed (op_keys op) v → Parses (λ e. event_read op v ≡ Some e) r → Parses (IsEventAsked word ms) r
parses_row op v word ms r is keys p =
    let here : Parses (IsEventAsked (op_word op) (keyed (op_keys op) v)) r =
    record {
      ok = sound_if_ok op v r p.ok;
      none = λ err e a.
          let s = row_of e _ a.keys in
          let same : op ≡ s.op = same_op op s.op (a.same ∙ s.word) in
          p.none err e (same_read op s.op v s.values same s.keys ∙ s.read);
    } in
    subst (λ w. Parses (IsEventAsked w ms) r) is
    (subst (λ m. Parses (IsEventAsked (op_word op) m) r) (sym keys) here)
