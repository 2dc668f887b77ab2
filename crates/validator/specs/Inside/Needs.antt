-- What an instruction without a body names that is not there, and which operands it takes (3.3.1 to 3.3.5).
use Rattle.std.specs.Prelude.{◌≡◌, ◌⊎◌, ℕ, ◌<◌, ◌^◌, List, ◌∷◌, length, All, Option, Some, None, Bool, true, false, slice_get}
use Rattle.wasm_ast.specs.declared.values.ValType.{ValType}
use Rattle.wasm_ast.specs.declared.values.ValType.TheVariants.{I32}
use Rattle.wasm_ast.specs.declared.values.FuncType.{FuncType}
use Rattle.wasm_ast.specs.declared.instr.GlobalOp.{GlobalOp}
use Rattle.wasm_ast.specs.declared.instr.GlobalOp.TheVariants as global
use Rattle.wasm_ast.specs.declared.instr.Simple.{Simple}
use Rattle.wasm_ast.specs.declared.instr.Simple.TheVariants as instr
use Rattle.wasm_ast.specs.declared.module.Func.{Func}
use Rattle.wasm_ast.specs.declared.module.Limits.{Limits}
use Rattle.wasm_ast.specs.declared.module.Mutability.TheVariants as mutability
use Rattle.wasm_ast.specs.declared.module.Global.{Global}
use Rattle.wasm_ast.specs.declared.module.Module.{Module}
use Rattle.wasm_ast.specs.Syntax.{simple, stop, next}
use Rattle.wasm_ast.specs.Types.{type_at}
use Rattle.wasm_ast.specs.Access.{load_bytes, store_bytes}
use Rattle.validator.specs.declared.needs.Lack.{Lack}
use Rattle.validator.specs.declared.needs.Lack.TheVariants as lack
use Rattle.validator.specs.declared.needs.Taken.{Taken}
use Rattle.validator.specs.declared.needs.Taken.TheVariants as taken
use Rattle.validator.specs.Typing.{Context, on_top, body_context, IsLabel}
use Rattle.validator.specs.PlaceTypes.{IsOwn}
use Rattle.validator.specs.SequenceTypes.{LeadsIn}

-- ---- what is not there

-- there is no such label
abbrev pub LacksLabel : List (List ValType) → (label : ℕ) → Lack → Type 0
LacksLabel labels label l = (l ≡ lack.Label) × (slice_get labels label ≡ None)

-- why a label does not take the types that it has to: it is not there, or takes others
abbrev pub LacksOther : List (List ValType) → (label : ℕ) → Lack → Type 0
LacksOther labels label l =
    LacksLabel labels label l
    ⊎ (us : List ValType) × (l ≡ lack.OtherTypes label) × IsLabel labels us label

-- the last label is not there, or one of the others does not take its types
abbrev pub LacksTable : List (List ValType) → List ℕ → (other : ℕ) → Lack → Type 0
LacksTable labels ks other l =
    LacksLabel labels other l
    ⊎ (ts : List ValType) × (k : ℕ) × IsLabel labels ts other × (All (IsLabel labels ts) ks → ⊥)
    × (IsLabel labels ts k → ⊥) × LacksOther labels k l

-- there is no such function, or it has no type
abbrev pub LacksFunction : List (Option FuncType) → (func : ℕ) → Lack → Type 0
LacksFunction funcs func l = (l ≡ lack.Function) × (type_at funcs func ≡ None)

-- there is no table, or no such type
abbrev pub LacksIndirect : List FuncType → List Limits → (type : ℕ) → Lack → Type 0
LacksIndirect types tables type l =
    ((l ≡ lack.Table) × (length tables ≡ 0)) ⊎ ((l ≡ lack.Type) × (slice_get types type ≡ None))

-- there is no such local
abbrev pub LacksLocal : List ValType → (index : ℕ) → Lack → Type 0
LacksLocal locals index l = (l ≡ lack.Local) × (slice_get locals index ≡ None)

-- there is no such global, or one that is set is a constant
abbrev pub LacksGlobal : GlobalOp → Option Global → Lack → Type 0
LacksGlobal op None l = l ≡ lack.Global
LacksGlobal global.Get (Some g) l = ⊥
LacksGlobal global.Set (Some g) l = (l ≡ lack.Constant) × (g.mutability ≡ mutability.Const)

-- there is no memory
abbrev pub LacksMemory : List Limits → Lack → Type 0
LacksMemory memories l = (l ≡ lack.Memory) × (length memories ≡ 0)

-- there is no memory, or the alignment is over the number of bytes that are accessed
abbrev pub LacksAccess : List Limits → (align bytes : ℕ) → Lack → Type 0
LacksAccess memories align bytes l =
    LacksMemory memories l ⊎ ((l ≡ lack.Alignment) × (bytes < 2 ^ align))

-- what an instruction names
abbrev pub Lacks : Context → Simple → Lack → Type 0
Lacks c (instr.Br label) l = LacksLabel c.labels label l
Lacks c (instr.BrIf label) l = LacksLabel c.labels label l
Lacks c (instr.BrTable other labels) l = LacksTable c.labels labels other l
Lacks c (instr.Call func) l = LacksFunction c.funcs func l
Lacks c (instr.CallIndirect type) l = LacksIndirect c.types c.tables type l
Lacks c (instr.Local op index) l = LacksLocal c.locals index l
Lacks c (instr.Global op index) l = LacksGlobal op (slice_get c.globals index) l
Lacks c (instr.Load op at) l = LacksAccess c.memories at.align (load_bytes op) l
Lacks c (instr.Store op at) l = LacksAccess c.memories at.align (store_bytes op) l
Lacks c instr.MemorySize l = LacksMemory c.memories l
Lacks c instr.MemoryGrow l = LacksMemory c.memories l
Lacks c _ l = ⊥

-- in a function of the module's own, and inside these labels
abbrev pub LacksIn :
    Module → (func : ℕ) → (labels : List (List ValType)) → Simple → Lack → Type 0
LacksIn m func labels i l =
    (f : Func) × (t : FuncType) × IsOwn m func f × (slice_get m.types f.type_index ≡ Some t)
    × Lacks (record (body_context m t f) { labels = labels }) i l

-- ---- which operands are taken

-- these operands, in written order, are on top of a stack, perhaps with an i32 above them
abbrev pub AreOnTop : (ts : List ValType) → (then_i32 : Bool) → (old : List ValType) → Type 0
AreOnTop ts false old = (rest : List ValType) × (old ≡ on_top ts rest)
AreOnTop ts true old = (rest : List ValType) × (old ≡ I32 ∷ on_top ts rest)

-- the operands are on top of a stack
abbrev pub IsThereFor : Taken → (old : List ValType) → Type 0
IsThereFor (taken.Types ts then_i32) old = AreOnTop ts.now then_i32 old
IsThereFor taken.Any old = (t : ValType) × (rest : List ValType) × (old ≡ t ∷ rest)
IsThereFor taken.Two old = (t : ValType) × (rest : List ValType) × (old ≡ I32 ∷ t ∷ t ∷ rest)

-- the instruction leads from this stack to another
abbrev pub GoesOn :
    Module → (func : ℕ) → (labels : List (List ValType)) → Simple → (old : List ValType) → Type 0
GoesOn m func labels i old =
    (new : List ValType) × LeadsIn m func labels (next (simple i) stop) old new
