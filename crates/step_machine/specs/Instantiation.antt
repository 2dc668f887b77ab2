-- How a module is instantiated and its entry invoked (4.5.4, 4.5.5): why it may be refused, and the
-- configuration that a task begins with.
use Rattle.std.specs.Prelude.{ℕ, ◌+◌, min, nat_le, List, [], ◌∷◌, ◌++◌, map, fold, take, drop, replicate, length, codes, bytes_eq, Bool, true, false, ◌&&◌, ◌||◌, not, if◌then◌else◌, Option, Some, None, is_some, unwrap_or}
use Rattle.std.specs.List.{list_all, list_any}
use Rattle.wasm_ast.specs.declared.values.Value.{Value}
use Rattle.wasm_ast.specs.declared.values.Value.TheVariants.{I32}
use Rattle.wasm_ast.specs.declared.instr.Simple.TheVariants as instr
use Rattle.wasm_ast.specs.declared.module.Limits.{Limits}
use Rattle.wasm_ast.specs.declared.module.Global.{Global}
use Rattle.wasm_ast.specs.declared.module.Element.{Element}
use Rattle.wasm_ast.specs.declared.module.Segment.{Segment}
use Rattle.wasm_ast.specs.declared.values.FuncType.{FuncType}
use Rattle.wasm_ast.specs.declared.module.Export.{Export}
use Rattle.wasm_ast.specs.declared.module.ExportKind.{ExportKind}
use Rattle.wasm_ast.specs.declared.module.ExportKind.TheVariants as kind
use Rattle.wasm_ast.specs.declared.module.Module.{Module}
use Rattle.wasm_ast.specs.declared.refusal.Refusal.{Refusal}
use Rattle.wasm_ast.specs.declared.refusal.Refusal.TheVariants as refusal
use Rattle.wasm_ast.specs.Syntax.{simple, Ops, stop, next}
use Rattle.wasm_ast.specs.Types.{zero_of, func_types, type_at}
use Rattle.linear_memory.specs.Memory.{Memory, new_memory, is_inside, with_range}
use Rattle.wasm_ast.specs.Limits.{is_within}
use Rattle.oci_config.specs.declared.process.ProcessConfig.{ProcessConfig}
use Rattle.step_machine.specs.declared.ends.End.{End}
use Rattle.step_machine.specs.declared.ends.End.TheVariants as ends
use Rattle.flat_code.specs.TypeClasses.{is_of_type}
use Rattle.wasm_ast.specs.declared.module.Import.{Import}
use Rattle.wasi_calls.specs.declared.host_call.HostCall.{HostCall}
use Rattle.wasi_calls.specs.declared.host_call.HostCall.TheVariants.{ProcExit, SchedYield}
use Rattle.wasi_calls.specs.HostCalls.{host_name, host_calls, host_module}
use Rattle.step_machine.specs.HostCalls.{all_known}
use Rattle.step_machine.specs.Program.{program}
use Rattle.step_machine.specs.Configuration.{Store, Items, seq, done, more, invoke, State, running, exited, trapped, stuck, Configuration}
use Rattle.step_machine.specs.Configuration as tree
use Rattle.step_machine.specs.Turns.{settled, at}

-- ---- the function that a task runs

-- a type from nothing to nothing
abbrev pub entry_type : FuncType
entry_type = record { params = []; results = [] }

-- what this kind and index name is a function from nothing to nothing
abbrev pub is_bare : List (Option FuncType) → ExportKind → (index : ℕ) → Bool
is_bare types kind.Func index = is_of_type entry_type (type_at types index)
is_bare types _ index = false

abbrev pub is_entry : List (Option FuncType) → Export → Bool
is_entry types e = bytes_eq e.name (codes "_start") && is_bare types e.kind e.index

abbrev pub entry_in : List (Option FuncType) → List Export → Option ℕ
entry_in types [] = None
entry_in types (e ∷ es) = if is_entry types e then Some e.index else entry_in types es

abbrev pub entry : Module → Option ℕ
entry m = entry_in (func_types m) m.exports

-- ---- what a store begins with (4.5.3, 4.5.4)

-- the value of a constant expression (4.5.4); a valid one is one constant
abbrev pub constant : Ops → Option Value
constant (next (simple (instr.Const v)) stop) = Some v
constant _ = None

abbrev pub first_global : Global → Value
first_global g = unwrap_or (constant g.init) (zero_of g.val_type)

-- where a segment begins
abbrev pub number_or_zero : Option Value → ℕ
number_or_zero (Some (I32 n)) = n
number_or_zero _ = 0

abbrev pub offset_of : Ops → ℕ
offset_of os = number_or_zero (constant os)

-- the most pages that a memory with this bound may have in a process of this cap
abbrev pub most_pages : (bound : Option ℕ) → (cap : ℕ) → ℕ
most_pages None cap = cap
most_pages (Some max) cap = min max cap

-- zeros, before segments are written
abbrev pub zero_memory : List Limits → (cap : ℕ) → Memory
zero_memory [] cap = new_memory 0 0
zero_memory (l ∷ ls) cap = new_memory l.min (most_pages l.max cap)

abbrev pub empty_table : List Limits → List (Option ℕ)
empty_table [] = []
empty_table (l ∷ ls) = replicate l.min None

-- a list with these items from an offset on
abbrev pub with_items : {X : Type 0} → List X → (offset : ℕ) → List X → List X
with_items xs offset items = take offset xs ++ (items ++ drop (offset + length items) xs)

abbrev pub with_element : List (Option ℕ) → Element → List (Option ℕ)
with_element table e = with_items table (offset_of e.offset) (map Some e.funcs)

abbrev pub with_segment : Memory → Segment → Memory
with_segment memory s = with_range memory (offset_of s.offset) s.bytes

-- the table and the memory with all segments written, one after the other
abbrev pub first_table : Module → List (Option ℕ)
first_table m = fold with_element (empty_table m.tables) m.elements

abbrev pub first_memory : Module → (cap : ℕ) → Memory
first_memory m cap = fold with_segment (zero_memory m.memories cap) m.segments

-- ---- refusals

-- a system call that reads or writes memory
abbrev pub uses_memory : HostCall → Bool
uses_memory ProcExit = false
uses_memory SchedYield = false
uses_memory _ = true

-- the name is one of a call that uses memory
abbrev pub names_one : List ℕ → List HostCall → Bool
names_one name hs = list_any (λ (h : HostCall). uses_memory h && bytes_eq name (host_name h)) hs

-- an import, by its module and name, is of such a call, whatever its type
abbrev pub needs_memory : List Import → Bool
needs_memory is =
    list_any (λ (i : Import). bytes_eq i.module host_module && names_one i.name host_calls) is

abbrev pub is_memory : ExportKind → Bool
is_memory kind.Memory = true
is_memory _ = false

-- a memory is exported as `memory`
abbrev pub exports_memory : List Export → Bool
exports_memory es =
    list_any (λ (e : Export). bytes_eq e.name (codes "memory") && is_memory e.kind) es

-- it has an entry, and exports its memory if a system call needs it
abbrev pub can_enter : Module → Bool
can_enter m = is_some (entry m) && (not (needs_memory m.imports) || exports_memory m.exports)

-- the memory begins with at most the process's cap of pages
abbrev pub are_pages_within : List Limits → (cap : ℕ) → Bool
are_pages_within [] cap = true
are_pages_within (l ∷ ls) cap = nat_le l.min cap

-- each segment is inside its table or memory as it begins; all are checked before any is written
abbrev pub are_elements_inside : (size : ℕ) → List Element → Bool
are_elements_inside size es =
    list_all (λ (e : Element). nat_le (offset_of e.offset + length e.funcs) size) es

abbrev pub are_segments_inside : Memory → List Segment → Bool
are_segments_inside memory ss =
    list_all (λ (s : Segment). is_inside memory (offset_of s.offset) (length s.bytes)) ss

-- why no task can run it: the first reason that holds. A module that was decoded is within the
-- limits; any other may not be
abbrev pub instantiation_refusal : Module → ProcessConfig → Option Refusal
instantiation_refusal m p =
    if not (can_enter m) then Some refusal.NoEntry
    else if not (all_known m.types m.imports) then Some refusal.BadImport
    else if not (is_within m && are_pages_within m.memories p.cap) then Some refusal.Limit
    else if not (are_elements_inside (length (empty_table m.tables)) m.elements
    && are_segments_inside (zero_memory m.memories p.cap) m.segments)
    then Some refusal.SegmentOutOfBounds
    else None

-- ---- the first configuration

-- globals, table and memory as instantiated, and nothing written
abbrev pub first_store : Module → ProcessConfig → Store
first_store m p = record {
  globals = map first_global m.globals;
  memory = first_memory m p.cap;
  table = first_table m;
  out = [];
  err = [];
}

-- the function is about to be invoked, before the rest
abbrev pub invoked_first : Option ℕ → Items → Items
invoked_first None rest = rest
invoked_first (Some func) rest = more (invoke func) rest

-- the start function, if there is one, and then the entry are about to be invoked
abbrev pub first_state : (start : Option ℕ) → (entry : Option ℕ) → State
first_state start None = stuck
first_state start (Some func) = running (seq [] (invoked_first start (more (invoke func) done)))

-- instantiated, up to the first plain instruction
abbrev pub initial : Module → ProcessConfig → Configuration
initial m p =
    settled (program m p)
    (record { store = first_store m p; state = first_state m.start (entry m) })

-- the configuration after n turns
abbrev pub after : Module → ProcessConfig → (n : ℕ) → Configuration
after m p n = at (program m p) (initial m p) n

-- the end of a halted configuration
abbrev pub ended : State → Option End
ended (running t) = if tree.is_empty t then Some ends.Returned else None
ended (exited number) = Some (ends.Exited number)
ended (trapped t) = Some (ends.Trapped t)
ended stuck = None
