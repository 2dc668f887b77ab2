-- What is answered, as JSON values and as lines. The members of a value are listed in the order of
-- their keys.
use Rattle.std.specs.Prelude.{ℕ, List, [], ◌∷◌, ◌++◌, map, true, false, Option, None, Some, Result, Ok, Err, codes}
use Rattle.hex.specs.Hex.{encode_lower}
use Rattle.serde_json.specs.Data.{Data, string, boolean, array, object, put}
use Rattle.serde_json.specs.View.{items_of}
use Rattle.serde_json.specs.Written.{compact_text}
use Rattle.wasm_ast.specs.declared.values.Value.{Value}
use Rattle.wasm_ast.specs.declared.values.Value.TheVariants as values
use Rattle.wasm_ast.specs.Names.{refusal_name, refusal_number, trap_name}
use Rattle.wasm_ast.specs.declared.refusal.Refusal.{Refusal}
use Rattle.wasm_ast.specs.declared.refusal.Refusal.TheVariants.{BadText, Invalid}
use Rattle.wasm_ast.specs.Numerals.{signed}
use Rattle.wasm_ast.specs.declared.shown.ShownFrame.{ShownFrame}
use Rattle.task_lifecycle.specs.Names.{status_name, cause_name, signal_number, exit_status}
use Rattle.task_requests.specs.declared.event.EventReply.{EventReply}
use Rattle.task_requests.specs.declared.event.EventReply.TheVariants.{Called, Taken, Returned}
use Rattle.task_requests.specs.declared.request.Reply.{Reply}
use Rattle.task_requests.specs.declared.request.Reply.TheVariants as reply
use Rattle.task_requests.specs.declared.request.TaskState.{TaskState}
use Rattle.task_lifecycle.specs.declared.status.ExitRecord.{ExitRecord}
use Rattle.task_lifecycle.specs.declared.status.ExitRecord.TheVariants.{Trapped, Kill}
use Rattle.task_lifecycle.specs.declared.status.Status.{Status}
use Rattle.request_lines.specs.Shape.{members, object_of, count, id_member, digest_member}

-- a refused one has the name and the number of its refusal
abbrev pub refused : Refusal → List (List ℕ × Data) → Data
refused e ms = object
    (put (codes "ok") (boolean false)
    (put (codes "error") (string (refusal_name e))
    (put (codes "number") (count (refusal_number e)) (members ms))))

-- with its place where a text denotes no module, or where the body of a function has a fault
abbrev pub refusal_data : Refusal → Data
refusal_data (BadText line column) =
    refused (BadText line column) ((codes "column", count column) ∷ (codes "line", count line) ∷ [])
refusal_data (Invalid (Some p)) =
    refused (Invalid (Some p)) ((codes "func", count p.func) ∷ (codes "place", count p.instr) ∷ [])
refusal_data refusal = refused refusal []

-- an accepted request is answered `ok`, with these members
abbrev pub accepted : List (List ℕ × Data) → Data
accepted ms = object (put (codes "ok") (boolean true) (members ms))

-- the list of these, each as this value
abbrev pub list_data : {X : Type 0} → (X → Data) → List X → Data
list_data as_data xs = array (items_of (map as_data xs))

-- a status of a task, and bytes in lower-case hexadecimal digits, with their keys
abbrev pub status_member : Status → List ℕ × Data
status_member status = (codes "status", string (status_name status))

abbrev pub hex_member : (bytes : List ℕ) → List ℕ × Data
hex_member bytes = (codes "hex", string (encode_lower bytes))

-- why a stopped task ended, and its exit status
abbrev pub cause_members : Option ExitRecord → List (List ℕ × Data)
cause_members None = []
cause_members (Some end) =
    (codes "cause", string (cause_name end)) ∷ (codes "exit", count (exit_status end)) ∷ []

-- the signal of a killed task
abbrev pub signal_members : Option ExitRecord → List (List ℕ × Data)
signal_members (Some (Kill signal)) = (codes "signal", count (signal_number signal)) ∷ []
signal_members other = []

-- the trap of a trapped task
abbrev pub trap_members : Option ExitRecord → List (List ℕ × Data)
trap_members (Some (Trapped trap)) = (codes "trap", string (trap_name trap)) ∷ []
trap_members other = []

abbrev pub state_data : TaskState → Data
state_data s = object_of
    (cause_members s.end ++ id_member s.id ∷ (codes "n", count s.n) ∷ (codes "ok", boolean true)
    ∷ signal_members s.end ++ status_member s.status ∷ trap_members s.end)

-- a value as a text: its type, and its number read as signed
abbrev pub value_text : Value → List ℕ
value_text (values.I32 n) = codes "i32:" ++ signed 32 n
value_text (values.I64 n) = codes "i64:" ++ signed 64 n

abbrev pub values_data : List Value → Data
values_data = list_data (λ v. string (value_text v))

-- the place that is next in a frame, or the text that tells its end
abbrev pub next_data : Option ℕ → Data
next_data None = string (codes "end")
next_data (Some place) = count place

abbrev pub frame_data : ShownFrame → Data
frame_data f = object_of
    ((codes "func", count f.func)
    ∷ (codes "labels", list_data count f.labels)
    ∷ (codes "locals", values_data f.locals)
    ∷ (codes "next", next_data f.next)
    ∷ (codes "operands", values_data f.operands) ∷ [])

-- the keys of each reply but `ok`, and their values
abbrev pub reply_data : Reply → Data
reply_data (reply.Put digest size) =
    accepted (digest_member digest ∷ (codes "size", count size) ∷ [])
reply_data (reply.Remove digest) = accepted (digest_member digest ∷ [])
reply_data (reply.LeaseCreate id) = accepted (id_member id ∷ [])
reply_data (reply.LeaseAdd digest id) = accepted (digest_member digest ∷ id_member id ∷ [])
reply_data (reply.LeaseDelete id) = accepted (id_member id ∷ [])
reply_data (reply.Gc removed) = accepted ((codes "removed", list_data string removed) ∷ [])
reply_data (reply.Create id status) = accepted (id_member id ∷ status_member status ∷ [])
reply_data (reply.Start id status) = accepted (id_member id ∷ status_member status ∷ [])
reply_data (reply.Pause id status) = accepted (id_member id ∷ status_member status ∷ [])
reply_data (reply.Resume id status) = accepted (id_member id ∷ status_member status ∷ [])
reply_data (reply.Kill id status) = accepted (id_member id ∷ status_member status ∷ [])
reply_data (reply.Delete state) = state_data state
reply_data (reply.State state) = state_data state
reply_data (reply.Wait state) = state_data state
reply_data (reply.Output bytes id size) =
    accepted (hex_member bytes ∷ id_member id ∷ (codes "size", count size) ∷ [])
reply_data (reply.Break id) = accepted (id_member id ∷ [])
reply_data (reply.Unbreak id) = accepted (id_member id ∷ [])
reply_data (reply.Step state) = state_data state
reply_data (reply.Inspect frames id n) = accepted
    ((codes "frames", list_data frame_data frames) ∷ id_member id ∷ (codes "n", count n) ∷ [])
reply_data (reply.Peek bytes id) = accepted (hex_member bytes ∷ id_member id ∷ [])

-- what a request is answered
abbrev pub json_of : Result Reply Refusal → Data
json_of (Ok reply) = reply_data reply
json_of (Err refusal) = refusal_data refusal

-- what an event is answered
abbrev pub event_data : EventReply → Data
event_data (Called answer) = json_of answer
event_data (Taken taken) = accepted ((codes "taken", boolean taken) ∷ [])
event_data (Returned returned) = accepted ((codes "returned", boolean returned) ∷ [])

-- a line: compact JSON with its keys in byte order, and a line feed
abbrev pub line_text : Data → List ℕ
line_text d = compact_text d ++ 10 ∷ []
