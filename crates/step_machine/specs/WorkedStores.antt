-- Small modules and segments for what a task begins with.
use Rattle.std.specs.Prelude.{ℕ, List, [], ◌∷◌, Option, Some}
use Rattle.wasm_ast.specs.declared.values.ValType.TheVariants as type
use Rattle.wasm_ast.specs.declared.values.Value.{Value}
use Rattle.wasm_ast.specs.declared.values.Value.TheVariants.{I32}
use Rattle.wasm_ast.specs.declared.instr.Simple.TheVariants as instr
use Rattle.wasm_ast.specs.declared.instr.LocalOp.TheVariants as local
use Rattle.wasm_ast.specs.declared.module.Limits.{Limits}
use Rattle.wasm_ast.specs.declared.module.Mutability.TheVariants as mutability
use Rattle.wasm_ast.specs.declared.module.Global.{Global}
use Rattle.wasm_ast.specs.declared.module.Element.{Element}
use Rattle.wasm_ast.specs.declared.module.Segment.{Segment}
use Rattle.wasm_ast.specs.declared.module.Module.{Module}
use Rattle.wasm_ast.specs.Syntax.{simple, Ops, stop, next}
use Rattle.linear_memory.specs.Memory.{Memory}
use Rattle.oci_config.specs.declared.process.ProcessConfig.{ProcessConfig}
use Rattle.step_machine.specs.Worked.{bare_process, i32_const, drop', call, func, with_funcs, to_i32, empty_entry, with_callee, nothing_to_nothing}

-- a process with this cap of pages
abbrev pub capped : (cap : ℕ) → ProcessConfig
capped cap = record bare_process { cap = cap }

abbrev pub constant_of : Value → Ops
constant_of v = next (simple (instr.Const v)) stop

abbrev pub limits : (min : ℕ) → (max : Option ℕ) → Limits
limits min max = record { min = min; max = max }

abbrev pub global_of : Value → Global
global_of v = record { val_type = type.I32; mutability = mutability.Var; init = constant_of v }

-- functions for the table, from this offset on
abbrev pub element : (offset : ℕ) → (funcs : List ℕ) → Element
element offset funcs = record { table = 0; offset = constant_of (I32 offset); funcs = funcs }

-- bytes for the memory, from this offset on
abbrev pub segment : (offset : ℕ) → (bytes : List ℕ) → Segment
segment offset bytes = record { memory = 0; offset = constant_of (I32 offset); bytes = bytes }

abbrev pub four_zeros : Memory
four_zeros = record { bytes = 0 ∷ 0 ∷ 0 ∷ 0 ∷ []; cap = 1 }

-- an entry that does nothing, with a table of this size and these elements
abbrev pub with_table_of : Limits → List Element → Module
with_table_of l elements = record empty_entry { tables = l ∷ []; elements = elements }

-- and with a memory of this size and these segments
abbrev pub with_memory_of : Limits → List Segment → Module
with_memory_of l segments = record empty_entry { memories = l ∷ []; segments = segments }

abbrev pub with_globals_of : List Global → Module
with_globals_of globals = record empty_entry { globals = globals }

-- function 2 drops 4, and is the start function; the entry drops 5 and exits with 6
abbrev pub with_start : Module
with_start =
    record (with_callee (i32_const 5 ∷ drop' ∷ i32_const 6 ∷ call 0 ∷ []) nothing_to_nothing
    (i32_const 4 ∷ drop' ∷ [])) { start = Some 2 }

-- call 2 call 0, where function 2 gives an i32, has a local, and is i32.const 5 local.set 0 local.get 0
abbrev pub written_local : Module
written_local =
    with_funcs (call 2 ∷ call 0 ∷ []) to_i32
    (func 2 (type.I32 ∷ [])
    (i32_const 5 ∷ simple (instr.Local local.Set 0) ∷ simple (instr.Local local.Get 0) ∷ [])
    ∷ [])
