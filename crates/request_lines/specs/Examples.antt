-- Lines that are read and written so.
use Rattle.std.specs.Prelude.{◌≡◌, ◌++◌, ◌-◌, ◌^◌, [], ◌∷◌, None, Some, Ok, Err, codes}
use Rattle.task_requests.specs.declared.event.Event.TheVariants.{Call, Take}
use Rattle.wasm_ast.specs.declared.refusal.Refusal.TheVariants as refusal
use Rattle.wasm_ast.specs.declared.values.Value.TheVariants.{I32, I64}
use Rattle.task_requests.specs.declared.request.Request.TheVariants as request
use Rattle.task_requests.specs.declared.request.Ask.TheVariants as ask
use Rattle.task_requests.specs.declared.request.Reply.TheVariants as reply
use Rattle.task_lifecycle.specs.declared.status.ExitRecord.TheVariants.{Exit}
use Rattle.task_lifecycle.specs.declared.status.Status.TheVariants.{Stopped}
use Rattle.request_lines.specs.Request.{IsEvent}
use Rattle.request_lines.specs.Reply.{json_of, line_text}

-- digits of either case
abbrev pub PutExample : Type 0
PutExample = IsEvent (codes "{\"op\":\"put\",\"hex\":\"00fF\"}") (Call (request.Put (0 ∷ 255 ∷ [])))

-- a line feed that is escaped in JSON is one in the text
abbrev pub TextExample : Type 0
TextExample =
    IsEvent (codes "{\"op\":\"put_text\",\"text\":\"(module\\n)\"}")
    (Call (request.PutText (codes "(module\n)")))

-- the place of a fault
abbrev pub FaultExample : Type 0
FaultExample =
    line_text (json_of (Err (refusal.BadText 1 38)))
    ≡ codes "{\"column\":38,\"error\":\"BadText\",\"line\":1,\"number\":18,\"ok\":false}\n"

-- of a key that is written twice the last value counts
abbrev pub TwiceExample : Type 0
TwiceExample =
    IsEvent (codes "{\"op\":\"start\",\"id\":\"a\",\"op\":\"state\"}")
    (Call (request.Task (codes "a") ask.State))

abbrev pub TakeExample : Type 0
TakeExample = IsEvent (codes "{\"op\":\"take\",\"id\":\"a\",\"budget\":100}") (Take (codes "a") 100)

abbrev pub OutputExample : Type 0
OutputExample =
    IsEvent (codes "{\"op\":\"output\",\"id\":\"a\",\"stream\":1}")
    (Call (request.Task (codes "a") (ask.Output 1)))

-- in lower-case digits, two for each byte
abbrev pub WrittenExample : Type 0
WrittenExample =
    line_text (json_of (Ok (reply.Output (0 ∷ 255 ∷ []) (codes "a") 2)))
    ≡ codes "{\"hex\":\"00ff\",\"id\":\"a\",\"ok\":true,\"size\":2}\n"

-- the digests of a list are in its order
abbrev pub RemovedExample : Type 0
RemovedExample =
    line_text (json_of (Ok (reply.Gc (codes "b" ∷ codes "a" ∷ []))))
    ≡ codes "{\"ok\":true,\"removed\":[\"b\",\"a\"]}\n"

abbrev pub LeaseExample : Type 0
LeaseExample =
    IsEvent (codes "{\"op\":\"lease_add\",\"id\":\"l\",\"digest\":\"d\"}")
    (Call (request.LeaseAdd (codes "d") (codes "l")))

abbrev pub StoppedExample : Type 0
StoppedExample =
    line_text
    (json_of
    (Ok (reply.State
    (record { id = codes "a"; n = 2; status = Stopped; end = Some (Exit 7) }))))
    ≡ codes
    "{\"cause\":\"exit\",\"exit\":7,\"id\":\"a\",\"n\":2,\"ok\":true,\"status\":\"stopped\"}\n"

-- the keys of a break, in any order
abbrev pub BreakExample : Type 0
BreakExample =
    IsEvent (codes "{\"op\":\"break\",\"id\":\"a\",\"func\":2,\"place\":0}")
    (Call (request.Task (codes "a") (ask.Break 2 0)))

abbrev pub StepExample : Type 0
StepExample =
    IsEvent (codes "{\"op\":\"step\",\"id\":\"a\",\"count\":10}")
    (Call (request.Task (codes "a") (ask.Step 10)))

abbrev pub PeekExample : Type 0
PeekExample =
    IsEvent (codes "{\"op\":\"peek\",\"id\":\"a\",\"address\":16,\"length\":4}")
    (Call (request.Task (codes "a") (ask.Peek 16 4)))

abbrev pub ShownExample : Type 0
ShownExample =
    line_text (json_of (Ok (reply.Peek (0 ∷ 255 ∷ []) (codes "a"))))
    ≡ codes "{\"hex\":\"00ff\",\"id\":\"a\",\"ok\":true}\n"

abbrev pub InspectExample : Type 0
InspectExample =
    IsEvent (codes "{\"op\":\"inspect\",\"id\":\"a\"}")
    (Call (request.Task (codes "a") ask.Inspect))

-- a function at its end, and the one that called it in a block, with a sign bit and the number below it
abbrev pub FramesExample : Type 0
FramesExample =
    line_text
    (json_of
    (Ok (reply.Inspect
    (record { func = 2; next = None; labels = []; locals = []; operands = [] }
    ∷ record {
      func = 1;
      next = Some 6;
      labels = 3 ∷ [];
      locals = I32 0 ∷ I64 (2 ^ 64 - 1) ∷ [];
      operands = I32 (2 ^ 31) ∷ I32 (2 ^ 31 - 1) ∷ [];
    }
    ∷ [])
    (codes "a") 6)))
    ≡ codes
    "{\"frames\":[{\"func\":2,\"labels\":[],\"locals\":[],\"next\":\"end\",\"operands\":[]},"
    ++ codes "{\"func\":1,\"labels\":[3],\"locals\":[\"i32:0\",\"i64:-1\"],\"next\":6,"
    ++ codes "\"operands\":[\"i32:-2147483648\",\"i32:2147483647\"]}],"
    ++ codes "\"id\":\"a\",\"n\":6,\"ok\":true}\n"
