-- Worked programs, and the words in which laws on public functions speak.
use Rattle.std.specs.Prelude.{ℕ, zero, suc, List, [], ◌∷◌, codes, None}
use Rattle.wasm_ast.specs.declared.values.ValType.{ValType}
use Rattle.wasm_ast.specs.declared.values.ValType.TheVariants as type
use Rattle.wasm_ast.specs.declared.values.Value.{Value}
use Rattle.wasm_ast.specs.declared.values.Value.TheVariants.{I32, I64}
use Rattle.wasm_ast.specs.declared.values.FuncType.{FuncType}
use Rattle.wasm_ast.specs.declared.instr.Simple.TheVariants.{Const, Drop, Br, Return, Call}
use Rattle.wasm_ast.specs.declared.instr.BlockType.{BlockType}
use Rattle.wasm_ast.specs.declared.instr.BlockType.TheVariants.{Empty, One, Index}
use Rattle.wasm_ast.specs.declared.module.Import.{Import}
use Rattle.wasm_ast.specs.declared.module.Func.{Func}
use Rattle.wasm_ast.specs.declared.module.Export.{Export}
use Rattle.wasm_ast.specs.declared.module.ExportKind.TheVariants as kind
use Rattle.wasm_ast.specs.declared.module.Module.{Module}
use Rattle.wasm_ast.specs.declared.place.Place.{Place}
use Rattle.linear_memory.specs.Memory.{new_memory}
use Rattle.wasm_ast.specs.Syntax.{Op, simple, block, loop, if', Ops, stop, next, ops_of}
use Rattle.oci_config.specs.declared.process.ProcessConfig.{ProcessConfig}
use Rattle.step_machine.specs.Configuration.{Store, Target, onward, Tree, seq, Items, done, more, Item, label, frame, items_of, State, running, Configuration}
use Rattle.step_machine.specs.Effects.{Env}
use Rattle.step_machine.specs.Reduction.{Reduced, to}

-- ---- instructions

abbrev pub i32_const : ℕ → Op
i32_const n = simple (Const (I32 n))

abbrev pub i64_const : ℕ → Op
i64_const n = simple (Const (I64 n))

abbrev pub drop' : Op
drop' = simple Drop

abbrev pub br : ℕ → Op
br n = simple (Br n)

abbrev pub return' : Op
return' = simple Return

abbrev pub call : ℕ → Op
call n = simple (Call n)

abbrev pub block_of : BlockType → (body : List Op) → Op
block_of t body = block t (ops_of body)

abbrev pub loop_of : BlockType → (body : List Op) → Op
loop_of t body = loop t (ops_of body)

-- ---- modules

-- a process without arguments
abbrev pub bare_process : ProcessConfig
bare_process = record { «module» = []; args = []; env = []; cap = 0 }

abbrev pub from_i32 : FuncType
from_i32 = record { params = type.I32 ∷ []; results = [] }

abbrev pub nothing_to_nothing : FuncType
nothing_to_nothing = record { params = []; results = [] }

abbrev pub to_i32 : FuncType
to_i32 = record { params = []; results = type.I32 ∷ [] }

abbrev pub exit_import : Import
exit_import =
    record { «module» = codes "wasi_snapshot_preview1"; name = codes "proc_exit"; type_index = 0 }

abbrev pub entry_export : Export
entry_export = record { name = codes "_start"; kind = kind.Func; index = 1 }

-- a function of this type, with these locals and this body
abbrev pub func : (type_index : ℕ) → (locals : List ValType) → (body : List Op) → Func
func type_index locals body =
    record { type_index = type_index; locals = locals; body = ops_of body }

-- a module with proc_exit as function 0, the entry as function 1 with this body, and more functions
-- from function 2 on, the first of them of this type
abbrev pub with_funcs : (body : List Op) → FuncType → List Func → Module
with_funcs body type funcs = record {
  types = from_i32 ∷ nothing_to_nothing ∷ type ∷ [];
  imports = exit_import ∷ [];
  funcs = func 1 [] body ∷ funcs;
  tables = [];
  memories = [];
  globals = [];
  exports = entry_export ∷ [];
  start = None;
  elements = [];
  segments = [];
}

-- with function 2 of this type and body
abbrev pub with_callee : (body : List Op) → FuncType → (callee : List Op) → Module
with_callee body type callee = with_funcs body type (func 2 [] callee ∷ [])

abbrev pub with_entry : (body : List Op) → Module
with_entry body = with_callee body to_i32 (i32_const 0 ∷ [])

-- i32.const 7 call 0
abbrev pub exit_seven : Module
exit_seven = with_entry (i32_const 7 ∷ call 0 ∷ [])

-- block (result i32) i32.const 1 i32.const 2 br 0 end call 0
abbrev pub branch_out : Module
branch_out =
    with_entry (block (One type.I32) (ops_of (i32_const 1 ∷ i32_const 2 ∷ br 0 ∷ [])) ∷ call 0 ∷ [])

-- loop br 0 end
abbrev pub endless : Module
endless = with_entry (loop Empty (ops_of (br 0 ∷ [])) ∷ [])

-- if i32.const 3 call 0 else i32.const 4 call 0 end, on this operand
abbrev pub two_ways : ℕ → Module
two_ways n =
    with_entry
    (i32_const n
    ∷ if' Empty (ops_of (i32_const 3 ∷ call 0 ∷ [])) (ops_of (i32_const 4 ∷ call 0 ∷ []))
    ∷ [])

-- call 2 call 0, where function 2 is i32.const 1 i32.const 9 return
abbrev pub call_and_return : Module
call_and_return =
    with_callee (call 2 ∷ call 0 ∷ []) to_i32 (i32_const 1 ∷ i32_const 9 ∷ return' ∷ [])

-- function 2 has no instructions
abbrev pub calls_nothing : Module
calls_nothing = with_callee [] nothing_to_nothing []

-- an entry that does nothing
abbrev pub empty_entry : Module
empty_entry = with_entry []

-- call 0 drop: exits with the first operand, and leaves none of two
abbrev pub finish : List Op
finish = call 0 ∷ drop' ∷ []

-- i32.const 5 block (result i32) i32.const 6 end, and then that
abbrev pub fall_through : Module
fall_through = with_entry (i32_const 5 ∷ block (One type.I32) (ops_of (i32_const 6 ∷ [])) ∷ finish)

-- i32.const 5 block (result i32) i32.const 1 i32.const 2 br 0 end, and then that
abbrev pub branch_above : Module
branch_above =
    with_entry
    (i32_const 5
    ∷ block (One type.I32) (ops_of (i32_const 1 ∷ i32_const 2 ∷ br 0 ∷ [])) ∷ finish)

-- i32.const 5 block (result i32) block i32.const 3 br 1 end i32.const 8 end, and then that
abbrev pub branch_through : Module
branch_through =
    with_entry (i32_const 5
    ∷ block (One type.I32)
    (ops_of (block Empty (ops_of (i32_const 3 ∷ br 1 ∷ [])) ∷ i32_const 8 ∷ []))
    ∷ finish)

-- the body of the loop of the next module
abbrev pub loop_body : List Op
loop_body = i32_const 3 ∷ br 0 ∷ []

-- i32.const 5 loop i32.const 3 br 0 end call 0
abbrev pub loop_above : Module
loop_above = with_entry (i32_const 5 ∷ loop_of Empty loop_body ∷ call 0 ∷ [])

-- i32.const 5 i32.const n if (result i32) i32.const 6 else i32.const 7 end, and then that
abbrev pub if_above : (n : ℕ) → Module
if_above n =
    with_entry
    (i32_const 5 ∷ i32_const n
    ∷ if' (One type.I32) (ops_of (i32_const 6 ∷ [])) (ops_of (i32_const 7 ∷ [])) ∷ finish)

-- i32.const 5 call 2, and then that, where function 2 gives an i32 and has this body
abbrev pub call_above : (callee : List Op) → Module
call_above callee = with_callee (i32_const 5 ∷ call 2 ∷ finish) to_i32 callee

-- bodies of function 2 that give 3: with a return, with one in a block, and with a branch to the label
-- of the body, in a block too
abbrev pub by_return : List Op
by_return = i32_const 1 ∷ i32_const 3 ∷ return' ∷ i32_const 4 ∷ []

abbrev pub by_return_in_a_block : List Op
by_return_in_a_block = i32_const 1 ∷ block_of Empty (i32_const 3 ∷ return' ∷ []) ∷ i32_const 4 ∷ []

abbrev pub by_branch : List Op
by_branch = i32_const 1 ∷ i32_const 3 ∷ br 0 ∷ i32_const 4 ∷ []

abbrev pub by_branch_in_a_block : List Op
by_branch_in_a_block = i32_const 1 ∷ block_of Empty (i32_const 3 ∷ br 1 ∷ []) ∷ i32_const 4 ∷ []

abbrev pub two_to_nothing : FuncType
two_to_nothing = record { params = type.I32 ∷ type.I64 ∷ []; results = [] }

abbrev pub two_to_one : FuncType
two_to_one = record { params = type.I32 ∷ type.I64 ∷ []; results = type.I32 ∷ [] }

-- i32.const 5 i32.const 1 i64.const 2 call 2 call 0, where function 2 takes an i32 and an i64, has an i64
-- as another local, and is i32.const 4 drop
abbrev pub call_with_two : Module
call_with_two =
    with_funcs (i32_const 5 ∷ i32_const 1 ∷ i64_const 2 ∷ call 2 ∷ call 0 ∷ []) two_to_nothing
    (func 2 (type.I64 ∷ []) (i32_const 4 ∷ drop' ∷ []) ∷ [])

abbrev pub one_to_one : FuncType
one_to_one = record { params = type.I32 ∷ []; results = type.I32 ∷ [] }

abbrev pub to_two : FuncType
to_two = record { params = []; results = type.I32 ∷ type.I64 ∷ [] }

-- i32.const 5 i32.const 3 loop (type 2) br 0 end, and then that, where type 2 is from an i32 to an i32
abbrev pub loop_taking : Module
loop_taking =
    with_callee (i32_const 5 ∷ i32_const 3 ∷ loop_of (Index 2) (br 0 ∷ []) ∷ finish) one_to_one
    (i32_const 0 ∷ [])

-- i32.const 5 i32.const 3 i32.const n if (type 2) drop i32.const 6 end, and then that
abbrev pub if_taking : (n : ℕ) → Module
if_taking n =
    with_callee
    (i32_const 5 ∷ i32_const 3 ∷ i32_const n
    ∷ if' (Index 2) (ops_of (drop' ∷ i32_const 6 ∷ [])) stop ∷ finish) one_to_one
    (i32_const 0 ∷ [])

-- i32.const 5 call 2 drop, and then that, where function 2 gives an i32 and an i64 and has this body
abbrev pub call_for_two : (callee : List Op) → Module
call_for_two callee = with_callee (i32_const 5 ∷ call 2 ∷ drop' ∷ finish) to_two callee

-- ---- configurations

abbrev pub empty_store : Store
empty_store = record { globals = []; memory = new_memory 0 0; table = []; out = []; err = [] }

-- the entry's frame with these operands, and what follows them
abbrev pub in_entry : (operands : List Value) → Items → State
in_entry operands items = running (seq [] (more (frame 0 1 [] (seq operands items)) done))

-- the entry with these operands, about to run these instructions, the first of which has this place
abbrev pub entered_at : (place : ℕ) → (operands : List Value) → Ops → State
entered_at place operands os = in_entry operands (items_of place os)

-- a body of which this place is the first, about to begin
abbrev pub fresh : (first : ℕ) → (body : List Op) → Tree
fresh first body = seq [] (items_of first (ops_of body))

-- the entry with the operand 5, an item above it, and these instructions after that
abbrev pub above_five : Item → (place : ℕ) → (rest : List Op) → State
above_five item place rest = in_entry (I32 5 ∷ []) (more item (items_of place (ops_of rest)))

-- the entry, about to exit with the first of these operands
abbrev pub exits_next : (place : ℕ) → (operands : List Value) → State
exits_next place operands = entered_at place operands (ops_of finish)

abbrev pub entered : (operands : List Value) → Ops → Configuration
entered operands os = record { store = empty_store; state = entered_at 0 operands os }

abbrev pub place : (func instr : ℕ) → Place
place func instr = record { func = func; instr = instr }

-- n frames of function 2 round a tree
abbrev pub nested : (n : ℕ) → Tree → Tree
nested zero t = t
nested (suc n) t = seq [] (more (frame 1 2 [] (nested n t)) done)

-- the innermost of n frames is about to call function 2
abbrev pub deep : (n : ℕ) → Configuration
deep n =
    record {
      store = empty_store;
      state = running (nested n (seq [] (items_of 0 (next (call 2) stop))));
    }

-- a tree of three frames and six values: locals and operands, in labels and in what follows them
abbrev pub measured : Tree
measured =
    seq (I32 1 ∷ [])
    (more
    (label 0 0 onward
    (seq (I32 2 ∷ I32 3 ∷ [])
    (more
    (frame 0 2 (I64 4 ∷ [])
    (seq (I32 5 ∷ []) (more (frame 0 2 [] (seq [] done)) done))) done)))
    (more (frame 0 3 (I32 6 ∷ []) (seq [] done)) done))

abbrev pub repeated : (n : ℕ) → Op → Ops → Ops
repeated zero o os = os
repeated (suc n) o os = next o (repeated n o os)

-- a module whose entry has this body
abbrev pub with_body : Ops → Module
with_body body = record {
  types = from_i32 ∷ nothing_to_nothing ∷ to_i32 ∷ [];
  imports = exit_import ∷ [];
  funcs = record { type_index = 1; locals = []; body = body } ∷ [];
  tables = [];
  memories = [];
  globals = [];
  exports = entry_export ∷ [];
  start = None;
  elements = [];
  segments = [];
}

-- n times i32.const 0, and then n times drop
abbrev pub pile : (n : ℕ) → Module
pile n = with_body (repeated n (i32_const 0) (repeated n drop' stop))

-- ---- evaluation contexts (4.2.13)

-- the same tree inside a label, with these operands below it and this after it
abbrev pub in_label :
    (below : List Value) → (arity place : ℕ) → Target → (rest : Items) → Env → Tree → Reduced
in_label below arity place target rest env tree =
    to env (seq below (more (label arity place target tree) rest))

-- the same tree inside a frame, whose locals are its own
abbrev pub in_frame :
    (outer below : List Value) → (arity func : ℕ) → (rest : Items) → Env → Tree → Reduced
in_frame outer below arity func rest env tree =
    to (record { store = env.store; locals = outer })
    (seq below (more (frame arity func env.locals tree) rest))
