-- What the system calls of WASI snapshot_preview1 do (wasi_snapshot_preview1.witx, and typenames.witx for the
-- types). If a range is not inside memory, the answer is the error number `fault`, and nothing is
-- written. A call reads all that it reads before it writes.
use Rattle.std.specs.Prelude.{ℕ, zero, suc, ◌+◌, ◌*◌, ◌-◌, ◌==◌, List, [], ◌∷◌, ◌++◌, length, take, nat_lt, Bool, ◌&&◌, if◌then◌else◌, Option, Some, None}
use Rattle.std.specs.List.{flat_map, list_all}
use Rattle.wasm_ast.specs.declared.values.Value.{Value}
use Rattle.wasm_ast.specs.declared.values.Value.TheVariants.{I32}
use Rattle.linear_memory.specs.Memory.{Memory, is_inside, range, with_range, little_endian, low_bytes}
use Rattle.oci_config.specs.declared.process.ProcessConfig.{ProcessConfig}
use Rattle.oci_config.specs.declared.process.Process.{Process}
use Rattle.oci_config.specs.Limits.{max_output}
use Rattle.wasi_calls.specs.declared.host_call.HostCall.{HostCall}
use Rattle.wasi_calls.specs.declared.host_call.HostCall.TheVariants.{ArgsSizesGet, ArgsGet, EnvironSizesGet, EnvironGet, FdWrite, ProcExit, SchedYield}
use Rattle.wasi_calls.specs.declared.host_end.HostEnd.{HostEnd}
use Rattle.wasi_calls.specs.declared.host_end.HostEnd.TheVariants as end

-- ---- error numbers ($errno)

abbrev pub success : ℕ
success = 0

-- no such file descriptor
abbrev pub badf : ℕ
badf = 8

-- an address outside memory
abbrev pub fault : ℕ
fault = 21

-- no room is left
abbrev pub nospc : ℕ
nospc = 51

-- what a call works on: the memory of the module, and what has been written to standard output and
-- standard error
pub record HostState : Type 0 where
  pub memory : Memory
  pub out : List ℕ
  pub err : List ℕ

abbrev pub state_of : Memory → Process → HostState
state_of m p = record { memory = m; out = p.out; err = p.err }

-- what a call returns, and the state after it
pub record HostDone : Type 0 where
  pub answer : HostEnd
  pub state : HostState

-- a call returns an error number
abbrev pub returns : (number : ℕ) → HostState → HostDone
returns number s = record { answer = end.Value number; state = s }

-- ---- args_sizes_get, args_get, environ_sizes_get, environ_get

-- bytes are written at two addresses, the first ones first
abbrev pub put_both :
    HostState → (p : ℕ) → (first : List ℕ) → (q : ℕ) → (second : List ℕ) → HostDone
put_both s p first q second =
    if is_inside s.memory p (length first) && is_inside s.memory q (length second)
    then returns success (record s { memory = with_range (with_range s.memory p first) q second })
    else returns fault s

-- a text as C has it: a NUL ends it
abbrev pub ended_text : List ℕ → List ℕ
ended_text text = text ++ 0 ∷ []

-- texts, one after the other
abbrev pub text_bytes : List (List ℕ) → List ℕ
text_bytes texts = flat_map ended_text texts

-- pointers to texts, the first of which is at this address
abbrev pub pointers : (address : ℕ) → List (List ℕ) → List ℕ
pointers address [] = []
pointers address (text ∷ texts) = address ∷ pointers (address + length (ended_text text)) texts

-- a u32 in memory ($size, $pointer)
abbrev pub word : ℕ → List ℕ
word n = low_bytes 4 n

-- how many texts there are, at p, and how many bytes they have, at q
abbrev pub sizes_get : List (List ℕ) → (p q : ℕ) → HostState → HostDone
sizes_get texts p q s = put_both s p (word (length texts)) q (word (length (text_bytes texts)))

-- pointers to the texts, at p, and the texts, at q
abbrev pub texts_get : List (List ℕ) → (p q : ℕ) → HostState → HostDone
texts_get texts p q s = put_both s p (flat_map word (pointers q texts)) q (text_bytes texts)

-- ---- fd_write

-- what is to be written: the address and the length of a buffer ($ciovec)
pub record Buffer : Type 0 where
  pub address : ℕ
  pub size : ℕ

abbrev pub buffer_at : Memory → (address : ℕ) → Buffer
buffer_at m a =
    record { address = little_endian (range m a 4); size = little_endian (range m (a + 4) 4) }

-- the bytes of a $ciovec
abbrev pub buffer_bytes : ℕ
buffer_bytes = 8

-- n of them, one after the other ($ciovec_array)
abbrev pub buffers_at : Memory → (address : ℕ) → (n : ℕ) → List Buffer
buffers_at m a zero = []
buffers_at m a (suc n) = buffer_at m a ∷ buffers_at m (a + buffer_bytes) n

abbrev pub are_inside : Memory → List Buffer → Bool
are_inside m bs = list_all (λ b. is_inside m b.address b.size) bs

-- the bytes of buffers, in order
abbrev pub gathered : Memory → List Buffer → List ℕ
gathered m bs = flat_map (λ b. range m b.address b.size) bs

-- how many more bytes a stream takes
abbrev pub room : (stream : List ℕ) → ℕ
room stream = max_output - length stream

-- of the bytes asked as many as there is room for are appended, from the front, and their number is
-- written at q; if bytes are asked and there is no room, nothing changes; the state is given as a
-- function of the stream
abbrev pub append : (state_with : List ℕ → HostState) → (stream asked : List ℕ) → (q : ℕ) → HostDone
append state_with stream asked q =
    let taken = take (room stream) asked in
    let memory = with_range (state_with stream).memory q (word (length taken)) in
    if nat_lt 0 (length asked) && room stream == 0 then returns nospc (state_with stream)
    else returns success (record (state_with (stream ++ taken)) { memory = memory })

-- n buffers, which are told at p, are written to a stream
abbrev pub write_stream :
    (state_with : List ℕ → HostState) → (stream : List ℕ) → (p n q : ℕ) → HostDone
write_stream state_with stream p n q =
    let m = (state_with stream).memory in
    if is_inside m p (n * buffer_bytes) && are_inside m (buffers_at m p n) && is_inside m q 4
    then append state_with stream (gathered m (buffers_at m p n)) q
    else returns fault (state_with stream)

-- file descriptor 1 is standard output, and 2 is standard error
abbrev pub fd_write : HostState → (fd p n q : ℕ) → HostDone
fd_write s fd p n q =
    if fd == 1 then write_stream (λ out. record s { out = out }) s.out p n q
    else if fd == 2 then write_stream (λ err. record s { err = err }) s.err p n q
    else returns badf s

-- a call with arguments of its types; with others there is no call
abbrev pub host : ProcessConfig → HostCall → (args : List Value) → HostState → Option HostDone
host c ArgsSizesGet (I32 p ∷ I32 q ∷ []) s = Some (sizes_get c.args p q s)
host c ArgsGet (I32 p ∷ I32 q ∷ []) s = Some (texts_get c.args p q s)
host c EnvironSizesGet (I32 p ∷ I32 q ∷ []) s = Some (sizes_get c.env p q s)
host c EnvironGet (I32 p ∷ I32 q ∷ []) s = Some (texts_get c.env p q s)
host c FdWrite (I32 fd ∷ I32 p ∷ I32 n ∷ I32 q ∷ []) s = Some (fd_write s fd p n q)
host c ProcExit (I32 code ∷ []) s = Some (record { answer = end.Exit code; state = s })
host c SchedYield [] s = Some (returns success s)
host c _ _ s = None
