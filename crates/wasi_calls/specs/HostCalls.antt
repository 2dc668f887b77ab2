-- The system calls of WASI snapshot_preview1 that this profile has: the module that they are
-- imported from, their names, and their types as function imports of a WebAssembly module
-- (wasi_snapshot_preview1.witx).
use Rattle.std.specs.Prelude.{ℕ, List, [], ◌∷◌, codes}
use Rattle.wasm_ast.specs.declared.values.ValType.TheVariants.{I32}
use Rattle.wasm_ast.specs.declared.values.FuncType.{FuncType}
use Rattle.wasi_calls.specs.declared.host_call.HostCall.{HostCall}
use Rattle.wasi_calls.specs.declared.host_call.HostCall.TheVariants.{ArgsSizesGet, ArgsGet, EnvironSizesGet, EnvironGet, FdWrite, ProcExit, SchedYield}

abbrev pub host_module : List ℕ
host_module = codes "wasi_snapshot_preview1"

abbrev pub host_calls : List HostCall
host_calls =
    ArgsSizesGet ∷ ArgsGet ∷ EnvironSizesGet ∷ EnvironGet ∷ FdWrite ∷ ProcExit ∷ SchedYield ∷ []

abbrev pub host_name : HostCall → List ℕ
host_name ArgsSizesGet = codes "args_sizes_get"
host_name ArgsGet = codes "args_get"
host_name EnvironSizesGet = codes "environ_sizes_get"
host_name EnvironGet = codes "environ_get"
host_name FdWrite = codes "fd_write"
host_name ProcExit = codes "proc_exit"
host_name SchedYield = codes "sched_yield"

-- pointers, sizes, file descriptors, exit codes and error numbers are all i32
abbrev pub host_type : HostCall → FuncType
host_type ArgsSizesGet = record { params = I32 ∷ I32 ∷ []; results = I32 ∷ [] }
host_type ArgsGet = record { params = I32 ∷ I32 ∷ []; results = I32 ∷ [] }
host_type EnvironSizesGet = record { params = I32 ∷ I32 ∷ []; results = I32 ∷ [] }
host_type EnvironGet = record { params = I32 ∷ I32 ∷ []; results = I32 ∷ [] }
host_type FdWrite = record { params = I32 ∷ I32 ∷ I32 ∷ I32 ∷ []; results = I32 ∷ [] }
host_type ProcExit = record { params = I32 ∷ []; results = [] }
host_type SchedYield = record { params = []; results = I32 ∷ [] }
