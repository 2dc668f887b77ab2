-- The values of the keys of a line, as they are kept while it is read.
use Rattle.std.specs.Prelude.{◌≡◌, ℕ, List, [], ◌∷◌, ◌&&◌, Bool, true, false, not, if◌then◌else◌, nat_le, Option, Some, None, Result, Ok, Err}
use Rattle.std.specs.List.{list_all}
use Rattle.std.specs.Ordering.{nat_cmp, is_lt}
use Rattle.std.specs.Cmp.Lexicographic.{slice_cmp}
use Rattle.hex.specs.Hex.{decode_of}
use Rattle.hex.specs.declared.error.FromHexError.{FromHexError}
use Rattle.serde_json.specs.Data.{Data, string, number, unsigned, Members, member, no_members}
use Rattle.task_requests.specs.Limits.{max_budget}
use Rattle.task_requests.specs.declared.event.Event.{Event}
use Rattle.task_requests.specs.declared.event.Event.TheVariants as happening
use Rattle.task_requests.specs.declared.request.Request.TheVariants as request
use Rattle.request_lines.specs.declared.table.Op.{Op}
use Rattle.request_lines.specs.declared.table.Op.TheVariants.{Put, Take}
use Rattle.request_lines.specs.declared.table.Key.{Key}
use Rattle.request_lines.specs.declared.table.Slot.{Slot}
use Rattle.request_lines.specs.declared.table.Slot.TheVariants.{Id, Text, First, Second}
use Rattle.request_lines.specs.declared.values.Values.{Values}
use Rattle.request_lines.specs.Table.{event_with, key_name, key_slot}

-- the value that is kept there
abbrev pub value_in : Slot → Values → Data
value_in Id v = string v.id
value_in Text v = string v.text
value_in First v = number (unsigned v.first)
value_in Second v = number (unsigned v.second)

-- the members of these keys
abbrev pub keyed : List Key → Values → Members
keyed [] v = no_members
keyed (k ∷ ks) v = member (key_name k) (value_in (key_slot k) v) (keyed ks v)

abbrev pub is_slot : Slot → Slot → Bool
is_slot Id Id = true
is_slot Text Text = true
is_slot First First = true
is_slot Second Second = true
is_slot s t = false

-- the values are the same but in one slot
abbrev pub IsKeptBut : Slot → Values → Values → Type 0
IsKeptBut Id v w = (w.text ≡ v.text) × (w.first ≡ v.first) × (w.second ≡ v.second)
IsKeptBut Text v w = (w.id ≡ v.id) × (w.first ≡ v.first) × (w.second ≡ v.second)
IsKeptBut First v w = (w.id ≡ v.id) × (w.text ≡ v.text) × (w.second ≡ v.second)
IsKeptBut Second v w = (w.id ≡ v.id) × (w.text ≡ v.text) × (w.first ≡ v.first)

-- the value of none of these keys is kept there
abbrev pub is_free : Slot → List Key → Bool
is_free s = list_all (λ k. not (is_slot s (key_slot k)))

-- the name is below that of the first of these keys
abbrev pub is_below : (name : List ℕ) → List Key → Bool
is_below name [] = true
is_below name (k ∷ ks) = is_lt (slice_cmp nat_cmp name (key_name k))

-- the keys ascend by their names, and no two of them have one slot
abbrev pub is_row : List Key → Bool
is_row [] = true
is_row (k ∷ ks) = is_free (key_slot k) ks && is_below (key_name k) ks && is_row ks

-- the values differ at most in the slots of these keys
pub record DiffersAt (ks : List Key) (v w : Values) : Type 0 where
  pub elsewhere : (s : Slot) → is_free s ks ≡ true → value_in s w ≡ value_in s v

-- the put of what some digits decode to
abbrev pub put_read : Result (List ℕ) FromHexError → Option Event
put_read (Ok bytes) = Some (happening.Call (request.Put bytes))
put_read (Err e) = None

abbrev pub take_read : (id : List ℕ) → (budget : ℕ) → Option Event
take_read id budget =
    if nat_le 1 budget && nat_le budget max_budget then Some (happening.Take id budget) else None

-- the event of an op with these values, if there is one
abbrev pub event_read : Op → Values → Option Event
event_read Put v = put_read (decode_of v.text)
event_read Take v = take_read v.id v.first
event_read op v = Some (event_with op [] v)

-- the members `left` are left of `whole` when the keys before `rest` have been taken, and their values are
-- kept: `whole` has all the keys if `left` has the rest of them, and only then
pub record Taking (all rest : List Key) (whole left : Members) (v : Values) : Type 0 where
  pub row : is_row rest ≡ true
  pub onward : (w : Values) → DiffersAt rest v w → left ≡ keyed rest w → whole ≡ keyed all w
  pub back : (w : Values) → whole ≡ keyed all w → left ≡ keyed rest w
