-- Validity (3): the typing of instruction sequences over whole operand stacks, the newest first, and
-- of modules.
use Rattle.std.specs.Prelude.{◌≡◌, ◌≢◌, ℕ, ◌+◌, ◌<◌, ◌≤◌, ◌^◌, List, [], ◌∷◌, ◌++◌, reverse, length, map, All, Option, Some, None, slice_get}
use Rattle.wasm_ast.specs.declared.values.ValType.{ValType}
use Rattle.wasm_ast.specs.declared.values.ValType.TheVariants.{I32}
use Rattle.wasm_ast.specs.declared.values.FuncType.{FuncType}
use Rattle.wasm_ast.specs.declared.instr.LocalOp.{LocalOp}
use Rattle.wasm_ast.specs.declared.instr.LocalOp.TheVariants as local
use Rattle.wasm_ast.specs.declared.instr.GlobalOp.{GlobalOp}
use Rattle.wasm_ast.specs.declared.instr.GlobalOp.TheVariants as global
use Rattle.wasm_ast.specs.declared.instr.Simple.{Simple}
use Rattle.wasm_ast.specs.declared.instr.Simple.TheVariants as instr
use Rattle.wasm_ast.specs.declared.module.Func.{Func}
use Rattle.wasm_ast.specs.declared.module.Limits.{Limits}
use Rattle.wasm_ast.specs.declared.module.Mutability.TheVariants as mutability
use Rattle.wasm_ast.specs.declared.module.Global.{Global}
use Rattle.wasm_ast.specs.declared.module.Element.{Element}
use Rattle.wasm_ast.specs.declared.module.Segment.{Segment}
use Rattle.wasm_ast.specs.declared.module.ExportKind.{ExportKind}
use Rattle.wasm_ast.specs.declared.module.ExportKind.TheVariants as kind
use Rattle.wasm_ast.specs.declared.module.Module.{Module}
use Rattle.wasm_ast.specs.Syntax.{Op, simple, block, loop, if', Ops, stop, next}
use Rattle.wasm_ast.specs.Types.{type_of, source_of, target_of, block_type, func_types, type_at}
use Rattle.wasm_ast.specs.Access.{load_type, load_bytes, store_type, store_bytes}

-- what instructions are typed under (3.1.1): the module's types, its functions' types (nothing for an
-- index that names none), its tables, memories and globals, the locals of the function, the types that a
-- branch to each label takes, the innermost first, and the results of the function
pub record Context : Type 0 where
  pub types : List FuncType
  pub funcs : List (Option FuncType)
  pub tables : List Limits
  pub memories : List Limits
  pub globals : List Global
  pub locals : List ValType
  pub labels : List (List ValType)
  pub results : List ValType

-- the same, inside one label more
abbrev pub under : Context → List ValType → Context
under c ts = record c { labels = ts ∷ c.labels }

-- types in written order, as the top of a stack
abbrev pub on_top : List ValType → List ValType → List ValType
on_top ts rest = reverse ts ++ rest

-- the stack has the first types on top, and then the second in their place
abbrev pub Replaces : (takes gives : List ValType) → (old new : List ValType) → Type 0
Replaces takes gives old new =
    (rest : List ValType) × (old ≡ on_top takes rest) × (new ≡ on_top gives rest)

abbrev pub Applies : FuncType → (old new : List ValType) → Type 0
Applies t old new = Replaces t.params t.results old new

-- ---- simple instructions (3.3.1 to 3.3.5): from one stack to another

-- of a local of this type (3.3.3)
abbrev pub LocalTyped : LocalOp → ValType → (old new : List ValType) → Type 0
LocalTyped local.Get t old new = Replaces [] (t ∷ []) old new
LocalTyped local.Set t old new = Replaces (t ∷ []) [] old new
LocalTyped local.Tee t old new = Replaces (t ∷ []) (t ∷ []) old new

-- of this global; only a variable one may be set (3.3.3)
abbrev pub GlobalTyped : GlobalOp → Global → (old new : List ValType) → Type 0
GlobalTyped global.Get g old new = Replaces [] (g.val_type ∷ []) old new
GlobalTyped global.Set g old new =
    (g.mutability ≡ mutability.Var) × Replaces (g.val_type ∷ []) [] old new

-- there is a memory, and the alignment is at most the number of bytes that are accessed (3.3.4)
abbrev pub Accesses : Context → (align bytes : ℕ) → Type 0
Accesses c align bytes = (0 < length c.memories) × (2 ^ align ≤ bytes)

-- this label takes these types
abbrev pub IsLabel : (labels : List (List ValType)) → (ts : List ValType) → (label : ℕ) → Type 0
IsLabel labels ts label = slice_get labels label ≡ Some ts

-- after unreachable, br, br_table and return the stack is free
abbrev pub SimpleTyped : Context → Simple → (old new : List ValType) → Type 0
SimpleTyped c instr.Unreachable old new = Unit {0}
SimpleTyped c instr.Nop old new = old ≡ new
SimpleTyped c (instr.Br label) old new =
    (ts : List ValType) × (rest : List ValType) × IsLabel c.labels ts label × (old ≡ on_top ts rest)
SimpleTyped c (instr.BrIf label) old new =
    (ts : List ValType) × (rest : List ValType) × IsLabel c.labels ts label
    × (old ≡ I32 ∷ on_top ts rest) × (new ≡ on_top ts rest)
SimpleTyped c (instr.BrTable other labels) old new =
    (ts : List ValType) × (rest : List ValType) × All (IsLabel c.labels ts) labels
    × IsLabel c.labels ts other
    × (old ≡ I32 ∷ on_top ts rest)
SimpleTyped c instr.Return old new = (rest : List ValType) × (old ≡ on_top c.results rest)
SimpleTyped c (instr.Call func) old new =
    (t : FuncType) × (type_at c.funcs func ≡ Some t) × Applies t old new
SimpleTyped c (instr.CallIndirect type) old new =
    (t : FuncType) × (between : List ValType) × (0 < length c.tables)
    × (slice_get c.types type ≡ Some t)
    × (old ≡ I32 ∷ between) × Applies t between new
SimpleTyped c instr.Drop old new = (t : ValType) × Replaces (t ∷ []) [] old new
SimpleTyped c instr.Select old new = (t : ValType) × Replaces (t ∷ t ∷ I32 ∷ []) (t ∷ []) old new
SimpleTyped c (instr.Local op index) old new =
    (t : ValType) × (slice_get c.locals index ≡ Some t) × LocalTyped op t old new
SimpleTyped c (instr.Global op index) old new =
    (g : Global) × (slice_get c.globals index ≡ Some g) × GlobalTyped op g old new
SimpleTyped c (instr.Load op at) old new =
    Accesses c at.align (load_bytes op) × Replaces (I32 ∷ []) (load_type op ∷ []) old new
SimpleTyped c (instr.Store op at) old new =
    Accesses c at.align (store_bytes op) × Replaces (I32 ∷ store_type op ∷ []) [] old new
SimpleTyped c instr.MemorySize old new = (0 < length c.memories) × Replaces [] (I32 ∷ []) old new
SimpleTyped c instr.MemoryGrow old new =
    (0 < length c.memories) × Replaces (I32 ∷ []) (I32 ∷ []) old new
SimpleTyped c (instr.Const value) old new = Replaces [] (type_of value ∷ []) old new
SimpleTyped c (instr.Unary t op) old new = Replaces (t ∷ []) (t ∷ []) old new
SimpleTyped c (instr.Binary t op) old new = Replaces (t ∷ t ∷ []) (t ∷ []) old new
SimpleTyped c (instr.Test t op) old new = Replaces (t ∷ []) (I32 ∷ []) old new
SimpleTyped c (instr.Compare t op) old new = Replaces (t ∷ t ∷ []) (I32 ∷ []) old new
SimpleTyped c (instr.Convert op) old new = Replaces (source_of op ∷ []) (target_of op ∷ []) old new

-- ---- sequences (3.3.6) and instructions with bodies (3.3.5). A body begins with what its block takes alone

abbrev mutual
  pub Typed : Context → Ops → (old new : List ValType) → Type 0
  Typed c stop old new = old ≡ new
  Typed c (next o os) old new =
      (between : List ValType) × OpTyped c o old between × Typed c os between new

  pub OpTyped : Context → Op → (old new : List ValType) → Type 0
  OpTyped c (simple s) old new = SimpleTyped c s old new
  OpTyped c (block b body) old new =
      (t : FuncType) × (block_type c.types b ≡ Some t) × Applies t old new
      × Typed (under c t.results) body (reverse t.params) (reverse t.results)
  OpTyped c (loop b body) old new =
      (t : FuncType) × (block_type c.types b ≡ Some t) × Applies t old new
      × Typed (under c t.params) body (reverse t.params) (reverse t.results)
  OpTyped c (if' b then_arm else_arm) old new =
      (t : FuncType) × (between : List ValType) × (old ≡ I32 ∷ between)
      × (block_type c.types b ≡ Some t) × Applies t between new
      × Typed (under c t.results) then_arm (reverse t.params) (reverse t.results)
      × Typed (under c t.results) else_arm (reverse t.params) (reverse t.results)

-- ---- functions, and what else a module has

-- a function's body is a block of its results (3.4.1)
abbrev pub body_context : Module → FuncType → Func → Context
body_context m t f = record {
  types = m.types;
  funcs = func_types m;
  tables = m.tables;
  memories = m.memories;
  globals = m.globals;
  locals = t.params ++ f.locals;
  labels = t.results ∷ [];
  results = t.results;
}

-- the body of a function leads from no operands to its results (3.4.1). Nothing is asked of it where its
-- function's index names no type
abbrev pub ValidBody : Module → Func → Type 0
ValidBody m f =
    (t : FuncType) → slice_get m.types f.type_index ≡ Some t
    → Typed (body_context m t f) f.body [] (reverse t.results)

-- a constant expression of this type (3.3.7): in this profile, one constant
abbrev pub IsConstant : ValType → Ops → Type 0
IsConstant t (next (simple (instr.Const value)) stop) = type_of value ≡ t
IsConstant t _ = ⊥

-- the most, if there is a bound
abbrev pub ValidMax : (range min : ℕ) → Option ℕ → Type 0
ValidMax range min None = Unit {0}
ValidMax range min (Some max) = (max ≤ range) × (min ≤ max)

-- the limits of a table or a memory, in a range (3.2.1)
abbrev pub ValidLimits : (range : ℕ) → Limits → Type 0
ValidLimits range l = (l.min ≤ range) × ValidMax range l.min l.max

-- the pages that the Standard lets a memory have
abbrev pub standard_pages : ℕ
standard_pages = 65536

-- the function of this index is of the module
abbrev pub IsFunction : Module → (index : ℕ) → Type 0
IsFunction m index = index < length m.imports + length m.funcs

-- what an export of this kind and index names is there (3.4.8)
abbrev pub IsThere : Module → ExportKind → (index : ℕ) → Type 0
IsThere m kind.Func index = IsFunction m index
IsThere m kind.Table index = index < length m.tables
IsThere m kind.Memory index = index < length m.memories
IsThere m kind.Global index = index < length m.globals

-- the start function takes nothing and gives nothing (3.4.7)
abbrev pub ValidStart : Module → Option ℕ → Type 0
ValidStart m None = Unit {0}
ValidStart m (Some func) = type_at (func_types m) func ≡ Some (record { params = []; results = [] })

-- a segment of functions for a table (3.4.5)
abbrev pub ValidElement : Module → Element → Type 0
ValidElement m e =
    (e.table < length m.tables) × IsConstant I32 e.offset × All (IsFunction m) e.funcs

-- a segment of bytes for a memory (3.4.6)
abbrev pub ValidSegment : Module → Segment → Type 0
ValidSegment m s = (s.memory < length m.memories) × IsConstant I32 s.offset

-- no text is there twice
abbrev pub AllDifferent : List (List ℕ) → Type 0
AllDifferent [] = Unit {0}
AllDifferent (x ∷ xs) = All (λ y. x ≢ y) xs × AllDifferent xs

-- what a module has outside its functions' bodies (3.4.10): the type of each import (3.4.9) and of each
-- function (3.4.1) is there, there is at most one table and one memory, their limits are valid (3.4.2,
-- 3.4.3), globals begin with a constant of their type (3.4.4), and the names of exports differ. A
-- function type may have any number of results (Core 2.0, 3.2.3)
pub record ValidOutside (m : Module) : Type 0 where
  pub imports : All (λ i. i.type_index < length m.types) m.imports
  pub funcs : All (λ f. f.type_index < length m.types) m.funcs
  pub one_table : length m.tables ≤ 1
  pub tables : All (ValidLimits (2 ^ 32)) m.tables
  pub one_memory : length m.memories ≤ 1
  pub memories : All (ValidLimits standard_pages) m.memories
  pub globals : All (λ g. IsConstant g.val_type g.init) m.globals
  pub exports : All (λ e. IsThere m e.kind e.index) m.exports
  pub names : AllDifferent (map (λ e. e.name) m.exports)
  pub start : ValidStart m m.start
  pub elements : All (ValidElement m) m.elements
  pub segments : All (ValidSegment m) m.segments

-- a module (3.4.10)
pub record ValidModule (m : Module) : Type 0 where
  pub outside : ValidOutside m
  pub bodies : All (ValidBody m) m.funcs
