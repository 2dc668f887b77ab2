-- The stores and programs of worked instructions.
use Rattle.std.specs.Prelude.{ℕ, List, [], ◌∷◌, Option}
use Rattle.wasm_ast.specs.declared.values.ValType.TheVariants as type
use Rattle.wasm_ast.specs.declared.values.Value.{Value}
use Rattle.wasm_ast.specs.declared.values.FuncType.{FuncType}
use Rattle.wasm_ast.specs.declared.instr.MemArg.{MemArg}
use Rattle.wasm_ast.specs.Syntax.{stop}
use Rattle.linear_memory.specs.Memory.{new_memory}
use Rattle.wasi_calls.specs.declared.host_call.HostCall.TheVariants.{ProcExit}
use Rattle.step_machine.specs.Program.{host, own, Program}
use Rattle.step_machine.specs.Configuration.{Store}
use Rattle.step_machine.specs.Effects.{Env, with_memory}

-- an access at this offset
abbrev pub at : (offset : ℕ) → MemArg
at offset = record { align = 0; offset = offset }

abbrev pub with_locals : List Value → Env → Env
with_locals locals env = record { store = env.store; locals = locals }

abbrev pub with_store : Store → Env → Env
with_store store env = record { store = store; locals = env.locals }

abbrev pub with_globals : List Value → Env → Env
with_globals globals env = with_store (record env.store { globals = globals }) env

-- a memory of these bytes, which are less than a page
abbrev pub with_bytes : List ℕ → Env → Env
with_bytes bytes env = with_memory env (record { bytes = bytes; cap = 1 })

abbrev pub with_pages : (pages cap : ℕ) → Env → Env
with_pages pages cap env = with_memory env (new_memory pages cap)

abbrev pub with_table : List (Option ℕ) → Env → Env
with_table table env = with_store (record env.store { table = table }) env

abbrev pub to_i64 : FuncType
to_i64 = record { params = []; results = type.I64 ∷ [] }

abbrev pub from_i64 : FuncType
from_i64 = record { params = type.I64 ∷ []; results = [] }

abbrev pub from_i32 : FuncType
from_i32 = record { params = type.I32 ∷ []; results = [] }

-- a function from nothing to an i64, one from an i64 to nothing, and proc_exit
abbrev pub typed_functions : Program → Program
typed_functions p = record p {
  types = to_i64 ∷ from_i64 ∷ from_i32 ∷ [];
  functions = own to_i64 [] stop ∷ own from_i64 [] stop ∷ host ProcExit ∷ [];
}
