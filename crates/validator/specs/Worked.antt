-- Worked modules, in which laws on validity speak.
use Rattle.std.specs.Prelude.{◌≡◌, ◌↔◌, ℕ, suc, Bool, List, [], ◌∷◌, ◌++◌, codes, Option, None}
use Rattle.wasm_ast.specs.declared.values.ValType.{ValType}
use Rattle.wasm_ast.specs.declared.values.ValType.TheVariants as type
use Rattle.wasm_ast.specs.declared.values.Value.TheVariants.{I32, I64}
use Rattle.wasm_ast.specs.declared.values.FuncType.{FuncType}
use Rattle.wasm_ast.specs.declared.operators.UnaryOp.{UnaryOp}
use Rattle.wasm_ast.specs.declared.operators.BinaryOp.{BinaryOp}
use Rattle.wasm_ast.specs.declared.operators.BinaryOp.TheVariants.{Add}
use Rattle.wasm_ast.specs.declared.operators.TestOp.{TestOp}
use Rattle.wasm_ast.specs.declared.operators.RelationOp.{RelationOp}
use Rattle.wasm_ast.specs.declared.operators.ConvertOp.{ConvertOp}
use Rattle.wasm_ast.specs.declared.operators.LoadOp.{LoadOp}
use Rattle.wasm_ast.specs.declared.operators.StoreOp.{StoreOp}
use Rattle.wasm_ast.specs.declared.instr.LocalOp.TheVariants as local
use Rattle.wasm_ast.specs.declared.instr.GlobalOp.TheVariants as global
use Rattle.wasm_ast.specs.declared.instr.Simple.TheVariants as instr
use Rattle.wasm_ast.specs.declared.instr.BlockType.{BlockType}
use Rattle.wasm_ast.specs.declared.instr.BlockType.TheVariants.{One}
use Rattle.wasm_ast.specs.declared.module.Import.{Import}
use Rattle.wasm_ast.specs.declared.module.Func.{Func}
use Rattle.wasm_ast.specs.declared.module.Limits.{Limits}
use Rattle.wasm_ast.specs.declared.module.Global.{Global}
use Rattle.wasm_ast.specs.declared.module.Mutability.TheVariants as mutability
use Rattle.wasm_ast.specs.declared.module.ExportKind.{ExportKind}
use Rattle.wasm_ast.specs.declared.module.Export.{Export}
use Rattle.wasm_ast.specs.declared.module.Element.{Element}
use Rattle.wasm_ast.specs.declared.module.Segment.{Segment}
use Rattle.wasm_ast.specs.declared.module.Module.{Module}
use Rattle.wasm_ast.specs.Syntax.{Op, simple, block, loop, if', ops_of}
use Rattle.validator.specs.Typing.{ValidModule}
use Rattle.validator.specs.PlaceTypes.{Point, Stack, Known, ReachesAt, PassesAt}

-- ---- instructions

abbrev pub i32_const : ℕ → Op
i32_const n = simple (instr.Const (I32 n))

abbrev pub i64_const : ℕ → Op
i64_const n = simple (instr.Const (I64 n))

abbrev pub local_get : ℕ → Op
local_get k = simple (instr.Local local.Get k)

abbrev pub local_set : ℕ → Op
local_set k = simple (instr.Local local.Set k)

abbrev pub local_tee : ℕ → Op
local_tee k = simple (instr.Local local.Tee k)

abbrev pub global_get : ℕ → Op
global_get k = simple (instr.Global global.Get k)

abbrev pub global_set : ℕ → Op
global_set k = simple (instr.Global global.Set k)

-- a load and a store at an offset, with an exponent of their alignment
abbrev pub load_at : LoadOp → (align offset : ℕ) → Op
load_at op align offset = simple (instr.Load op (record { align = align; offset = offset }))

abbrev pub store_at : StoreOp → (align offset : ℕ) → Op
store_at op align offset = simple (instr.Store op (record { align = align; offset = offset }))

abbrev pub memory_size : Op
memory_size = simple instr.MemorySize

abbrev pub memory_grow : Op
memory_grow = simple instr.MemoryGrow

abbrev pub nop : Op
nop = simple instr.Nop

abbrev pub unary : ValType → UnaryOp → Op
unary t op = simple (instr.Unary t op)

abbrev pub binary : ValType → BinaryOp → Op
binary t op = simple (instr.Binary t op)

abbrev pub test : ValType → TestOp → Op
test t op = simple (instr.Test t op)

abbrev pub compare : ValType → RelationOp → Op
compare t op = simple (instr.Compare t op)

abbrev pub convert : ConvertOp → Op
convert op = simple (instr.Convert op)

abbrev pub unreachable : Op
unreachable = simple instr.Unreachable

abbrev pub drop' : Op
drop' = simple instr.Drop

abbrev pub select : Op
select = simple instr.Select

abbrev pub br : ℕ → Op
br label = simple (instr.Br label)

abbrev pub br_if : ℕ → Op
br_if label = simple (instr.BrIf label)

abbrev pub br_table : List ℕ → (other : ℕ) → Op
br_table labels other = simple (instr.BrTable other labels)

abbrev pub return' : Op
return' = simple instr.Return

abbrev pub call : ℕ → Op
call func = simple (instr.Call func)

abbrev pub call_indirect : ℕ → Op
call_indirect type = simple (instr.CallIndirect type)

abbrev pub block_of : BlockType → (body : List Op) → Op
block_of t body = block t (ops_of body)

abbrev pub loop_of : BlockType → (body : List Op) → Op
loop_of t body = loop t (ops_of body)

abbrev pub if_of : BlockType → (then_arm else_arm : List Op) → Op
if_of t then_arm else_arm = if' t (ops_of then_arm) (ops_of else_arm)

-- ---- parts of modules

abbrev pub func_type : (params results : List ValType) → FuncType
func_type params results = record { params = params; results = results }

abbrev pub func : (type_index : ℕ) → (locals : List ValType) → (body : List Op) → Func
func type_index locals body =
    record { type_index = type_index; locals = locals; body = ops_of body }

abbrev pub limits : ℕ → Option ℕ → Limits
limits min max = record { min = min; max = max }

abbrev pub constant_of : ValType → List Op → Global
constant_of t init = record { val_type = t; mutability = mutability.Const; init = ops_of init }

abbrev pub variable_of : ValType → List Op → Global
variable_of t init = record { val_type = t; mutability = mutability.Var; init = ops_of init }

abbrev pub export_of : (name : List ℕ) → ExportKind → ℕ → Export
export_of name kind index = record { name = name; kind = kind; index = index }

abbrev pub element : (table : ℕ) → (offset : List Op) → (funcs : List ℕ) → Element
element table offset funcs = record { table = table; offset = ops_of offset; funcs = funcs }

abbrev pub segment : (memory : ℕ) → (offset : List Op) → Segment
segment memory offset = record { memory = memory; offset = ops_of offset; bytes = 1 ∷ [] }

abbrev pub import_of : (type_index : ℕ) → Import
import_of type_index =
    record {
      «module» = codes "wasi_snapshot_preview1";
      name = codes "proc_exit";
      type_index = type_index;
    }

-- ---- modules

-- a module with an import, function 0, from an i32 to nothing; function 1 of this type, with these locals
-- and this body; function 2 from nothing to an i32; function 3 from an i32 and an i64 to an i64; a table,
-- a memory, a constant i32 and a variable i64
abbrev pub with_body : FuncType → (locals : List ValType) → (body : List Op) → Module
with_body t locals body = record {
  types =
      t ∷ func_type (type.I32 ∷ []) [] ∷ func_type [] (type.I32 ∷ [])
      ∷ func_type (type.I32 ∷ type.I64 ∷ []) (type.I64 ∷ []) ∷ [];
  imports = import_of 1 ∷ [];
  funcs = func 0 locals body ∷ func 2 [] (i32_const 0 ∷ []) ∷ func 3 [] (local_get 1 ∷ []) ∷ [];
  tables = limits 1 None ∷ [];
  memories = limits 1 None ∷ [];
  globals = constant_of type.I32 (i32_const 0 ∷ []) ∷ variable_of type.I64 (i64_const 0 ∷ []) ∷ [];
  exports = [];
  start = None;
  elements = [];
  segments = [];
}

-- the same with a function from nothing to nothing that does nothing
abbrev pub plain : Module
plain = with_body (func_type [] []) [] []

-- these types alone
abbrev pub with_types : List FuncType → Module
with_types types = record plain { types = types; imports = []; funcs = [] }

-- the locals of these types, from one on, in their order
abbrev pub reads : ℕ → List ValType → List Op
reads k [] = []
reads k (t ∷ ts) = local_get k ∷ reads (suc k) ts

-- the instructions lead from operands of the first types, in written order, to operands of the
-- second: they are the body of a function of that type, which first reads its parameters
abbrev pub Types : (takes gives : List ValType) → List Op → Type 0
Types takes gives os = ValidModule (with_body (func_type takes gives) [] (reads 0 takes ++ os))

-- they are the body of a function from nothing to these results
abbrev pub Gives : (gives : List ValType) → List Op → Type 0
Gives gives os = Types [] gives os

-- they are a body from nothing to nothing, with locals: parameters i32 and i64, and an i32 and an i64 more
abbrev pub WithLocals : (gives : List ValType) → List Op → Type 0
WithLocals gives os =
    ValidModule
    (with_body (func_type (type.I32 ∷ type.I64 ∷ []) gives) (type.I32 ∷ type.I64 ∷ []) os)

-- the instructions in a module without a memory, and in one without a table
abbrev pub TypesWithoutMemory : (takes gives : List ValType) → List Op → Type 0
TypesWithoutMemory takes gives os =
    ValidModule
    (record (with_body (func_type takes gives) [] (reads 0 takes ++ os)) { memories = [] })

abbrev pub TypesWithoutTable : (takes gives : List ValType) → List Op → Type 0
TypesWithoutTable takes gives os =
    ValidModule
    (record (with_body (func_type takes gives) [] (reads 0 takes ++ os)) { tables = [] })

-- ---- places

-- the labels of blocks that are open, and the operands of each, the innermost block's first
abbrev pub point_of : (labels stacks : List (List ValType)) → Point
point_of labels stacks = record { labels = labels; stacks = stacks }

abbrev pub known_stack : (unreachable : Bool) → (types : List (Option ValType)) → Stack
known_stack unreachable types = record { unreachable = unreachable; types = types }

abbrev pub known_point : (labels : List (List ValType)) → (stacks : List Stack) → Known
known_point labels stacks = record { labels = labels; stacks = stacks }

-- in the body of a function from nothing to these results, the instructions before a place lead to
-- this point, and to no other
abbrev pub LeadsTo : (gives : List ValType) → List Op → (place : ℕ) → Point → Type 0
LeadsTo gives os place p =
    (q : Point) → ReachesAt (with_body (func_type [] gives) [] os) 1 place q ↔ (q ≡ p)

-- they may lead to this point
abbrev pub MayLeadTo : (gives : List ValType) → List Op → (place : ℕ) → Point → Type 0
MayLeadTo gives os place p = ReachesAt (with_body (func_type [] gives) [] os) 1 place p

-- a typing of the whole body may pass through this point
abbrev pub MayPass : (gives : List ValType) → List Op → (place : ℕ) → Point → Type 0
MayPass gives os place p = PassesAt (with_body (func_type [] gives) [] os) 1 place p

-- a branch out of a block: its operand is of the block, and the one before the block is not
abbrev pub branch_body : List Op
branch_body =
    i32_const 1
    ∷ block_of (One type.I32) (i32_const 4 ∷ br 0 ∷ binary type.I32 Add ∷ [])
    ∷ binary type.I32 Add ∷ []

-- arms of an `if`, one with a loop
abbrev pub arms_body : List Op
arms_body =
    i32_const 0
    ∷ if_of (One type.I64) (i64_const 7 ∷ []) (nop ∷ loop_of (One type.I64) (i64_const 8 ∷ []) ∷ [])
    ∷ drop' ∷ []
