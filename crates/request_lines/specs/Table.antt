-- The table of lines: of each op its word and its keys, of each key its name and what its value is, and
-- the event of an op with these values.
use Rattle.std.specs.Prelude.{ℕ, List, [], ◌∷◌, bytes_eq, find, Option, codes}
use Rattle.task_requests.specs.declared.event.Event.{Event}
use Rattle.task_requests.specs.declared.event.Event.TheVariants as happening
use Rattle.task_requests.specs.declared.request.Request.TheVariants as request
use Rattle.task_requests.specs.declared.request.Ask.TheVariants as ask
use Rattle.request_lines.specs.declared.table.Op.{Op}
use Rattle.request_lines.specs.declared.table.Op.TheVariants.{Put, PutText, Remove, LeaseCreate, LeaseAdd, LeaseDelete, Gc, Create, Start, Pause, Resume, Kill, Delete, State, Wait, Output, Break, Unbreak, Step, Inspect, Peek, Take, Return}
use Rattle.request_lines.specs.declared.table.Key.{Key}
use Rattle.request_lines.specs.declared.table.Key.TheVariants.{Hex, Text, Digest, Config, Id, Signal, Stream, Func, Place, Count, Address, Length, Budget}
use Rattle.request_lines.specs.declared.table.Kind.{Kind}
use Rattle.request_lines.specs.declared.table.Kind.TheVariants as kind
use Rattle.request_lines.specs.declared.table.Slot.{Slot}
use Rattle.request_lines.specs.declared.table.Slot.TheVariants as slot
use Rattle.request_lines.specs.declared.values.Values.{Values}
use Rattle.request_lines.specs.Request.{event_op}

abbrev pub all_ops : List Op
all_ops = Put ∷ PutText ∷ Remove ∷ LeaseCreate ∷ LeaseAdd ∷ LeaseDelete ∷ Gc ∷ Create ∷ Start
    ∷ Pause ∷ Resume ∷ Kill
    ∷ Delete ∷ State ∷ Wait ∷ Output ∷ Break ∷ Unbreak ∷ Step ∷ Inspect ∷ Peek ∷ Take ∷ Return ∷ []

-- the event of an op with these values; `bytes` are those of a put
abbrev pub event_with : Op → (bytes : List ℕ) → Values → Event
event_with Put bytes v = happening.Call (request.Put bytes)
event_with PutText bytes v = happening.Call (request.PutText v.text)
event_with Remove bytes v = happening.Call (request.Remove v.text)
event_with LeaseCreate bytes v = happening.Call (request.LeaseCreate v.id)
event_with LeaseAdd bytes v = happening.Call (request.LeaseAdd v.text v.id)
event_with LeaseDelete bytes v = happening.Call (request.LeaseDelete v.id)
event_with Gc bytes v = happening.Call request.Gc
event_with Create bytes v = happening.Call (request.Create v.text v.id)
event_with Start bytes v = happening.Call (request.Task v.id ask.Start)
event_with Pause bytes v = happening.Call (request.Task v.id ask.Pause)
event_with Resume bytes v = happening.Call (request.Task v.id ask.Resume)
event_with Kill bytes v = happening.Call (request.Task v.id (ask.Kill v.first))
event_with Delete bytes v = happening.Call (request.Task v.id ask.Delete)
event_with State bytes v = happening.Call (request.Task v.id ask.State)
event_with Wait bytes v = happening.Call (request.Task v.id ask.Wait)
event_with Output bytes v = happening.Call (request.Task v.id (ask.Output v.first))
event_with Break bytes v = happening.Call (request.Task v.id (ask.Break v.first v.second))
event_with Unbreak bytes v = happening.Call (request.Task v.id (ask.Unbreak v.first v.second))
event_with Step bytes v = happening.Call (request.Task v.id (ask.Step v.first))
event_with Inspect bytes v = happening.Call (request.Task v.id ask.Inspect)
event_with Peek bytes v = happening.Call (request.Task v.id (ask.Peek v.first v.second))
event_with Take bytes v = happening.Take v.id v.first
event_with Return bytes v = happening.Return v.id

-- the word of an op is that of all its events
abbrev pub op_word : Op → List ℕ
op_word op = event_op (event_with op [] (record { id = []; text = []; first = 0; second = 0 }))

-- the keys beside `op`, in the order of their names
abbrev pub op_keys : Op → List Key
op_keys Put = Hex ∷ []
op_keys PutText = Text ∷ []
op_keys Remove = Digest ∷ []
op_keys LeaseAdd = Digest ∷ Id ∷ []
op_keys Gc = []
op_keys Create = Config ∷ Id ∷ []
op_keys Kill = Id ∷ Signal ∷ []
op_keys Output = Id ∷ Stream ∷ []
op_keys Break = Func ∷ Id ∷ Place ∷ []
op_keys Unbreak = Func ∷ Id ∷ Place ∷ []
op_keys Step = Count ∷ Id ∷ []
op_keys Peek = Address ∷ Id ∷ Length ∷ []
op_keys Take = Budget ∷ Id ∷ []
op_keys other = Id ∷ []

-- the first of these with a word
abbrev pub op_with : (word : List ℕ) → List Op → Option Op
op_with word = find (λ op. bytes_eq (op_word op) word)

-- the name of a key in a line
abbrev pub key_name : Key → List ℕ
key_name Hex = codes "hex"
key_name Text = codes "text"
key_name Digest = codes "digest"
key_name Config = codes "config"
key_name Id = codes "id"
key_name Signal = codes "signal"
key_name Stream = codes "stream"
key_name Func = codes "func"
key_name Place = codes "place"
key_name Count = codes "count"
key_name Address = codes "address"
key_name Length = codes "length"
key_name Budget = codes "budget"

-- where the value of a key is kept
abbrev pub key_slot : Key → Slot
key_slot Id = slot.Id
key_slot Hex = slot.Text
key_slot Text = slot.Text
key_slot Digest = slot.Text
key_slot Config = slot.Text
key_slot Place = slot.Second
key_slot Length = slot.Second
key_slot other = slot.First

-- what kind of value is kept there
abbrev pub kind_in : Slot → Kind
kind_in slot.Id = kind.Text
kind_in slot.Text = kind.Text
kind_in other = kind.Number

-- what the value of a key has to be
abbrev pub key_kind : Key → Kind
key_kind Hex = kind.Digits
key_kind Budget = kind.Budget
key_kind other = kind_in (key_slot other)
