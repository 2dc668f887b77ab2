-- Which imports are system calls.
use Rattle.std.specs.Prelude.{ℕ, List, [], ◌∷◌, bytes_eq, Bool, true, ◌&&◌, if◌then◌else◌, Option, Some, None, slice_get, is_some}
use Rattle.wasm_ast.specs.declared.values.FuncType.{FuncType}
use Rattle.wasm_ast.specs.declared.module.Import.{Import}
use Rattle.flat_code.specs.TypeClasses.{is_of_type}
use Rattle.wasi_calls.specs.declared.host_call.HostCall.{HostCall}
use Rattle.wasi_calls.specs.HostCalls.{host_name, host_type, host_calls, host_module}

-- the first of these calls that an import of this name and type is
abbrev pub call_named : List ℕ → Option FuncType → List HostCall → Option HostCall
call_named name type [] = None
call_named name type (h ∷ hs) =
    if bytes_eq name (host_name h) && is_of_type (host_type h) type then Some h
    else call_named name type hs

-- the system call that an import is: by its module, its name and its type
abbrev pub known : List FuncType → Import → Option HostCall
known types i =
    if bytes_eq i.module host_module
    then call_named i.name (slice_get types i.type_index) host_calls else None

abbrev pub all_known : List FuncType → List Import → Bool
all_known types [] = true
all_known types (i ∷ is) = is_some (known types i) && all_known types is
