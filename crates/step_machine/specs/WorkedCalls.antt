-- Small modules that make system calls.
use Rattle.std.specs.Prelude.{ℕ, List, [], ◌∷◌, codes, None}
use Rattle.wasm_ast.specs.declared.values.ValType.TheVariants as type
use Rattle.wasm_ast.specs.declared.values.FuncType.{FuncType}
use Rattle.wasm_ast.specs.declared.module.Import.{Import}
use Rattle.wasm_ast.specs.declared.module.Segment.{Segment}
use Rattle.wasm_ast.specs.declared.module.Export.{Export}
use Rattle.wasm_ast.specs.declared.module.ExportKind.TheVariants as kind
use Rattle.wasm_ast.specs.declared.module.Module.{Module}
use Rattle.wasm_ast.specs.Syntax.{Op}
use Rattle.oci_config.specs.declared.process.ProcessConfig.{ProcessConfig}
use Rattle.step_machine.specs.Worked.{bare_process, i32_const, drop', call, func, nothing_to_nothing}
use Rattle.step_machine.specs.WorkedStores.{limits, segment}

-- a process with one page and these arguments
abbrev pub with_args : List (List ℕ) → ProcessConfig
with_args args = record bare_process { args = args; cap = 1 }

abbrev pub two_to_number : FuncType
two_to_number = record { params = type.I32 ∷ type.I32 ∷ []; results = type.I32 ∷ [] }

abbrev pub four_to_number : FuncType
four_to_number =
    record { params = type.I32 ∷ type.I32 ∷ type.I32 ∷ type.I32 ∷ []; results = type.I32 ∷ [] }

abbrev pub import_of : («module» name : List ℕ) → Import
import_of «module» name = record { «module» = «module»; name = name; type_index = 0 }

abbrev pub memory_export : (name : List ℕ) → Export
memory_export name = record { name = name; kind = kind.Memory; index = 0 }

abbrev pub start_export : Export
start_export = record { name = codes "_start"; kind = kind.Func; index = 1 }

-- a module with this import, of this type, as function 0, the entry as function 1 with this body, a page of
-- memory with these segments, and these exports beside the entry
abbrev pub calling :
    FuncType → Import → (body : List Op) → List Segment → (exports : List Export) → Module
calling t i body segments exports = record {
  types = t ∷ nothing_to_nothing ∷ [];
  imports = i ∷ [];
  funcs = func 1 [] body ∷ [];
  tables = [];
  memories = limits 1 None ∷ [];
  globals = [];
  exports = start_export ∷ exports;
  start = None;
  elements = [];
  segments = segments;
}

abbrev pub wasi : (name : List ℕ) → Import
wasi name = import_of (codes "wasi_snapshot_preview1") name

-- fd_write of `hi!` to standard output, the number at 12, and its answer dropped
abbrev pub hello : Module
hello =
    calling four_to_number (wasi (codes "fd_write"))
    (i32_const 1 ∷ i32_const 0 ∷ i32_const 1 ∷ i32_const 12 ∷ call 0 ∷ drop' ∷ [])
    (segment 0 (8 ∷ 0 ∷ 0 ∷ 0 ∷ 3 ∷ 0 ∷ 0 ∷ 0 ∷ codes "hi!") ∷ [])
    (memory_export (codes "memory") ∷ [])

-- args_sizes_get to 0 and 4, and its answer dropped
abbrev pub counts_args : Module
counts_args =
    calling two_to_number (wasi (codes "args_sizes_get"))
    (i32_const 0 ∷ i32_const 4 ∷ call 0 ∷ drop' ∷ []) []
    (memory_export (codes "memory") ∷ [])

-- an entry that does nothing, this import, and these exports beside the entry
abbrev pub importing : FuncType → Import → List Export → Module
importing t i exports = calling t i [] [] exports
