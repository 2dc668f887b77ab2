-- The validation algorithm (appendix A.3) as a function: what a sequence of instructions does to the types
-- of operands that are known while it is checked.
use Rattle.std.specs.Prelude.{ℕ, ◌^◌, nat_le, nat_lt, Bool, true, false, ◌&&◌, List, [], ◌∷◌, ◌++◌, reverse, length, map, Option, Some, None, slice_get, if◌then◌else◌}
use Rattle.wasm_ast.specs.declared.values.ValType.{ValType}
use Rattle.wasm_ast.specs.declared.values.ValType.TheVariants.{I32, I64}
use Rattle.wasm_ast.specs.declared.values.FuncType.{FuncType}
use Rattle.wasm_ast.specs.declared.instr.LocalOp.{LocalOp}
use Rattle.wasm_ast.specs.declared.instr.LocalOp.TheVariants as local
use Rattle.wasm_ast.specs.declared.instr.GlobalOp.{GlobalOp}
use Rattle.wasm_ast.specs.declared.instr.GlobalOp.TheVariants as global
use Rattle.wasm_ast.specs.declared.instr.Simple.{Simple}
use Rattle.wasm_ast.specs.declared.instr.Simple.TheVariants as instr
use Rattle.wasm_ast.specs.declared.module.Limits.{Limits}
use Rattle.wasm_ast.specs.declared.module.Mutability.{Mutability}
use Rattle.wasm_ast.specs.declared.module.Mutability.TheVariants as mutability
use Rattle.wasm_ast.specs.declared.module.Global.{Global}
use Rattle.wasm_ast.specs.Syntax.{Op, simple, block, loop, if', Ops, stop, next}
use Rattle.wasm_ast.specs.Types.{is_same_type, are_same_types, type_of, block_type, type_at, source_of, target_of}
use Rattle.wasm_ast.specs.Access.{load_type, load_bytes, store_type, store_bytes}
use Rattle.wasm_ast.specs.Limits.{are_all}
use Rattle.validator.specs.Typing.{Context, under}
use Rattle.validator.specs.PlaceTypes.{Stack}

-- what follows a step that may fail
abbrev pub and_then : {A B : Type 0} → Option A → (A → Option B) → Option B
and_then None f = None
and_then (Some x) f = f x

-- an operand that can be of this type
abbrev pub can_be : ValType → Option ValType → Bool
can_be t None = true
can_be t (Some u) = is_same_type t u

-- ---- operands are taken

-- the newest operand, whatever its type, and those below
abbrev pub pop_any : Bool → List (Option ValType) → Option (Option ValType × List (Option ValType))
pop_any true [] = Some (None, [])
pop_any false [] = None
pop_any unreachable (x ∷ xs) = Some (x, xs)

-- those below, if the operand can be of this type
abbrev pub below_type :
    ValType → Option ValType × List (Option ValType) → Option (List (Option ValType))
below_type t p = if can_be t p.0 then Some p.1 else None

abbrev pub pop : Bool → ValType → List (Option ValType) → Option (List (Option ValType))
pop unreachable t xs = and_then (pop_any unreachable xs) (below_type t)

-- the same for several types, the newest first
abbrev pub pops : Bool → List ValType → List (Option ValType) → Option (List (Option ValType))
pops unreachable [] xs = Some xs
pops unreachable (t ∷ ts) xs = and_then (pop unreachable t xs) (pops unreachable ts)

abbrev pub knowns : List ValType → List (Option ValType)
knowns ts = map Some ts

-- the stack with these operands
abbrev pub with_types : Stack → List (Option ValType) → Stack
with_types s xs = record { unreachable = s.unreachable; types = xs }

-- operands of the first types, in written order, become operands of the second
abbrev pub replaced : (takes gives : List ValType) → Stack → Option Stack
replaced takes gives s =
    and_then (pops s.unreachable (reverse takes) s.types)
    (λ xs. Some (with_types s (knowns (reverse gives) ++ xs)))

-- after an instruction that never goes on to the next
abbrev pub nowhere : Stack
nowhere = record { unreachable = true; types = [] }

-- operands of these types, in written order, are taken, and the next instruction is never reached
abbrev pub leaves : (takes : List ValType) → Stack → Option Stack
leaves takes s = and_then (pops s.unreachable (reverse takes) s.types) (λ xs. Some nowhere)

-- an i32 is taken first
abbrev pub after_i32 : (Stack → Option Stack) → Stack → Option Stack
after_i32 f s = and_then (pop s.unreachable I32 s.types) (λ xs. f (with_types s xs))

-- ---- simple instructions

abbrev pub drops : Stack → Option Stack
drops s = and_then (pop_any s.unreachable s.types) (λ p. Some (with_types s p.1))

-- the one type that two operands have
abbrev pub join : Option ValType → Option ValType → Option (Option ValType)
join None y = Some y
join (Some t) y = if can_be t y then Some (Some t) else None

-- the newest operand and one that was taken before become one, if they can have one type
abbrev pub joins_next : Option ValType → Stack → Option Stack
joins_next x s =
    and_then (pop_any s.unreachable s.types)
    (λ p. and_then (join x p.0) (λ t. Some (with_types s (t ∷ p.1))))

-- two operands of one type become one
abbrev pub joins : Stack → Option Stack
joins s = and_then (pop_any s.unreachable s.types) (λ p. joins_next p.0 (with_types s p.1))

abbrev pub check_local : LocalOp → ValType → Stack → Option Stack
check_local local.Get t s = replaced [] (t ∷ []) s
check_local local.Set t s = replaced (t ∷ []) [] s
check_local local.Tee t s = replaced (t ∷ []) (t ∷ []) s

abbrev pub is_variable : Mutability → Bool
is_variable mutability.Const = false
is_variable mutability.Var = true

abbrev pub check_global : GlobalOp → Global → Stack → Option Stack
check_global global.Get g s = replaced [] (g.val_type ∷ []) s
check_global global.Set g s =
    if is_variable g.mutability then replaced (g.val_type ∷ []) [] s else None

-- a label that takes these types
abbrev pub takes_types : List ValType → Option (List ValType) → Bool
takes_types ts None = false
takes_types ts (Some us) = are_same_types ts us

abbrev pub is_label : List (List ValType) → List ValType → ℕ → Bool
is_label labels ts k = takes_types ts (slice_get labels k)

abbrev pub branch : List (List ValType) → ℕ → Stack → Option Stack
branch labels k s = and_then (slice_get labels k) (λ ts. leaves ts s)

abbrev pub branch_if : List (List ValType) → ℕ → Stack → Option Stack
branch_if labels k s = and_then (slice_get labels k) (λ ts. after_i32 (replaced ts ts) s)

-- to labels that all take these types
abbrev pub branches : List (List ValType) → List ℕ → List ValType → Stack → Option Stack
branches labels ks ts s = if are_all (is_label labels ts) ks then after_i32 (leaves ts) s else None

abbrev pub branch_table : List (List ValType) → List ℕ → (other : ℕ) → Stack → Option Stack
branch_table labels ks other s = and_then (slice_get labels other) (λ ts. branches labels ks ts s)

abbrev pub applies : FuncType → Stack → Option Stack
applies t s = replaced t.params t.results s

abbrev pub call : List (Option FuncType) → ℕ → Stack → Option Stack
call funcs k s = and_then (type_at funcs k) (λ t. applies t s)

abbrev pub is_some_there : {A : Type 0} → List A → Bool
is_some_there xs = nat_lt 0 (length xs)

abbrev pub call_indirect : List FuncType → List Limits → ℕ → Stack → Option Stack
call_indirect types tables k s =
    if is_some_there tables
    then and_then (slice_get types k) (λ t. after_i32 (applies t) s) else None

abbrev pub local_op : List ValType → LocalOp → ℕ → Stack → Option Stack
local_op locals op k s = and_then (slice_get locals k) (λ t. check_local op t s)

abbrev pub global_op : List Global → GlobalOp → ℕ → Stack → Option Stack
global_op globals op k s = and_then (slice_get globals k) (λ g. check_global op g s)

-- with a memory, operands of the first types, in written order, become operands of the second
abbrev pub with_memory : List Limits → (takes gives : List ValType) → Stack → Option Stack
with_memory memories takes gives s = if is_some_there memories then replaced takes gives s else None

-- the same for an access that is aligned like this
abbrev pub access :
    List Limits → (align bytes : ℕ) → (takes gives : List ValType) → Stack → Option Stack
access memories align bytes takes gives s =
    if is_some_there memories && nat_le (2 ^ align) bytes then replaced takes gives s else None

abbrev pub check_simple : Context → Simple → Stack → Option Stack
check_simple c instr.Unreachable s = Some nowhere
check_simple c instr.Nop s = Some s
check_simple c (instr.Br label) s = branch c.labels label s
check_simple c (instr.BrIf label) s = branch_if c.labels label s
check_simple c (instr.BrTable other labels) s = branch_table c.labels labels other s
check_simple c instr.Return s = leaves c.results s
check_simple c (instr.Call func) s = call c.funcs func s
check_simple c (instr.CallIndirect type) s = call_indirect c.types c.tables type s
check_simple c instr.Drop s = drops s
check_simple c instr.Select s = after_i32 joins s
check_simple c (instr.Local op index) s = local_op c.locals op index s
check_simple c (instr.Global op index) s = global_op c.globals op index s
check_simple c (instr.Load op at) s =
    access c.memories at.align (load_bytes op) (I32 ∷ []) (load_type op ∷ []) s
check_simple c (instr.Store op at) s =
    access c.memories at.align (store_bytes op) (I32 ∷ store_type op ∷ []) [] s
check_simple c instr.MemorySize s = with_memory c.memories [] (I32 ∷ []) s
check_simple c instr.MemoryGrow s = with_memory c.memories (I32 ∷ []) (I32 ∷ []) s
check_simple c (instr.Const value) s = replaced [] (type_of value ∷ []) s
check_simple c (instr.Unary t op) s = replaced (t ∷ []) (t ∷ []) s
check_simple c (instr.Binary t op) s = replaced (t ∷ t ∷ []) (t ∷ []) s
check_simple c (instr.Test t op) s = replaced (t ∷ []) (I32 ∷ []) s
check_simple c (instr.Compare t op) s = replaced (t ∷ t ∷ []) (I32 ∷ []) s
check_simple c (instr.Convert op) s = replaced (source_of op ∷ []) (target_of op ∷ []) s

-- ---- sequences

-- where a body begins
abbrev pub start : List ValType → Stack
start params = record { unreachable = false; types = knowns (reverse params) }

abbrev pub is_empty : Option (List (Option ValType)) → Bool
is_empty None = false
is_empty (Some []) = true
is_empty (Some (x ∷ xs)) = false

-- the stack that a body ends with has its results and no more
abbrev pub ends : List ValType → Option Stack → Bool
ends results None = false
ends results (Some s) = is_empty (pops s.unreachable (reverse results) s.types)

-- a block whose bodies pass
abbrev pub encloses : FuncType → (bodies : Bool) → Stack → Option Stack
encloses t bodies s =
    and_then (pops s.unreachable (reverse t.params) s.types)
    (λ xs. if bodies then Some (with_types s (knowns (reverse t.results) ++ xs)) else None)

abbrev mutual
  pub check_ops : Context → Ops → Stack → Option Stack
  check_ops c stop s = Some s
  check_ops c (next o os) s = and_then (check_op c o s) (check_ops c os)

  pub check_op : Context → Op → Stack → Option Stack
  check_op c (simple i) s = check_simple c i s
  check_op c (block b body) s =
      and_then (block_type c.types b)
      (λ t. encloses t (ends t.results (check_ops (under c t.results) body (start t.params))) s)
  check_op c (loop b body) s =
      and_then (block_type c.types b)
      (λ t. encloses t (ends t.results (check_ops (under c t.params) body (start t.params))) s)
  check_op c (if' b then_arm else_arm) s =
      and_then (block_type c.types b) (λ t. after_i32 (encloses t
      (ends t.results (check_ops (under c t.results) then_arm (start t.params))
      && ends t.results (check_ops (under c t.results) else_arm (start t.params)))) s)
