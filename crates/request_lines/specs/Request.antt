-- Which lines are requests and events.
use Rattle.std.specs.Prelude.{◌≡◌, ◌≤◌, ℕ, List, [], ◌∷◌, Ok, codes}
use Rattle.hex.specs.Hex.{decode_of}
use Rattle.serde_json.specs.Data.{Data, string, object, Members, put}
use Rattle.task_requests.specs.declared.request.Request.{Request}
use Rattle.task_requests.specs.declared.request.Request.TheVariants.{Put, PutText, Remove, LeaseCreate, LeaseAdd, LeaseDelete, Gc, Create, Task}
use Rattle.task_requests.specs.declared.request.Ask.TheVariants.{Start, Pause, Resume, Kill, Delete, State, Wait, Output, Break, Unbreak, Step, Inspect, Peek}
use Rattle.task_requests.specs.Limits.{max_budget}
use Rattle.task_requests.specs.declared.event.Event.{Event}
use Rattle.task_requests.specs.declared.event.Event.TheVariants.{Call, Take, Return}
use Rattle.request_lines.specs.Shape.{IsJson, members, count, id_member, digest_member}

-- ---- the table of requests

-- the value of the key `op`
abbrev pub op_of : Request → List ℕ
op_of (Put bytes) = codes "put"
op_of (PutText text) = codes "put_text"
op_of (Remove digest) = codes "remove"
op_of (LeaseCreate id) = codes "lease_create"
op_of (LeaseAdd digest id) = codes "lease_add"
op_of (LeaseDelete id) = codes "lease_delete"
op_of Gc = codes "gc"
op_of (Create config id) = codes "create"
op_of (Task id Start) = codes "start"
op_of (Task id Pause) = codes "pause"
op_of (Task id Resume) = codes "resume"
op_of (Task id (Kill signal)) = codes "kill"
op_of (Task id Delete) = codes "delete"
op_of (Task id State) = codes "state"
op_of (Task id Wait) = codes "wait"
op_of (Task id (Output stream)) = codes "output"
op_of (Task id (Break func place)) = codes "break"
op_of (Task id (Unbreak func place)) = codes "unbreak"
op_of (Task id (Step count)) = codes "step"
op_of (Task id Inspect) = codes "inspect"
op_of (Task id (Peek address length)) = codes "peek"

-- the key `id` and no other
abbrev pub only_id : List ℕ → Members
only_id id = members ((codes "id", string id) ∷ [])

-- the keys of an instruction of a task, and no others
abbrev pub place_keys : (func : ℕ) → (id : List ℕ) → (place : ℕ) → Members
place_keys func id place =
    members ((codes "func", count func) ∷ id_member id ∷ (codes "place", count place) ∷ [])

-- the other members, by their keys: `hex` is an even number of hexadecimal digits of either case
abbrev pub HasKeys : Members → Request → Type 0
HasKeys ms (Put bytes) =
    (hex : List ℕ) × (ms ≡ members ((codes "hex", string hex) ∷ [])) × (decode_of hex ≡ Ok bytes)
HasKeys ms (PutText text) = ms ≡ members ((codes "text", string text) ∷ [])
HasKeys ms (Remove digest) = ms ≡ members (digest_member digest ∷ [])
HasKeys ms (LeaseCreate id) = ms ≡ only_id id
HasKeys ms (LeaseAdd digest id) = ms ≡ members (digest_member digest ∷ id_member id ∷ [])
HasKeys ms (LeaseDelete id) = ms ≡ only_id id
HasKeys ms Gc = ms ≡ members []
HasKeys ms (Create config id) = ms ≡ members ((codes "config", string config) ∷ id_member id ∷ [])
HasKeys ms (Task id (Kill signal)) =
    ms ≡ members (id_member id ∷ (codes "signal", count signal) ∷ [])
HasKeys ms (Task id (Output stream)) =
    ms ≡ members (id_member id ∷ (codes "stream", count stream) ∷ [])
HasKeys ms (Task id (Break func place)) = ms ≡ place_keys func id place
HasKeys ms (Task id (Unbreak func place)) = ms ≡ place_keys func id place
HasKeys ms (Task id (Step number)) =
    ms ≡ members ((codes "count", count number) ∷ id_member id ∷ [])
HasKeys ms (Task id (Peek address length)) = ms ≡ members
    ((codes "address", count address) ∷ id_member id ∷ (codes "length", count length) ∷ [])
HasKeys ms (Task id other) = ms ≡ only_id id

-- ---- the event lines of a replay

abbrev pub event_op : Event → List ℕ
event_op (Call request) = op_of request
event_op (Take id budget) = codes "take"
event_op (Return id) = codes "return"

abbrev pub HasEventKeys : Members → Event → Type 0
HasEventKeys ms (Call request) = HasKeys ms request
HasEventKeys ms (Take id budget) =
    (ms ≡ members ((codes "budget", count budget) ∷ id_member id ∷ []))
    × (1 ≤ budget) × (budget ≤ max_budget)
HasEventKeys ms (Return id) = ms ≡ only_id id

-- ---- values and lines

-- the JSON value is this event: it is an object with this `op`, these keys and no others
abbrev pub AsksEvent : Data → Event → Type 0
AsksEvent d e =
    (ms : Members) × (d ≡ object (put (codes "op") (string (event_op e)) ms)) × HasEventKeys ms e

-- the line is this event
pub record IsEvent (line : List ℕ) (event : Event) : Type 0 where
  pub value : Data
  pub reads : IsJson line value
  pub asks : AsksEvent value event

-- the line is this request
abbrev pub IsRequest : (line : List ℕ) → Request → Type 0
IsRequest line request = IsEvent line (Call request)
