-- The types of operands and labels before an instruction of a function's body (3.3), and what is
-- known of them.
use Rattle.std.specs.Prelude.{◌≡◌, ℕ, zero, suc, ◌-◌, ◌<◌, ◌≤◌, ◌⊎◌, Bool, true, false, List, [], ◌∷◌, length, reverse, Option, Some, None, slice_get}
use Rattle.std.specs.List.{AllZip}
use Rattle.wasm_ast.specs.declared.values.ValType.{ValType}
use Rattle.wasm_ast.specs.declared.values.ValType.TheVariants.{I32}
use Rattle.wasm_ast.specs.declared.values.FuncType.{FuncType}
use Rattle.wasm_ast.specs.declared.module.Func.{Func}
use Rattle.wasm_ast.specs.declared.module.Module.{Module}
use Rattle.wasm_ast.specs.Syntax.{Op, simple, block, loop, if', Ops, stop, next, count, ops_count, ops_at}
use Rattle.wasm_ast.specs.Types.{block_type}
use Rattle.validator.specs.Typing.{Context, under, on_top, body_context, OpTyped, Typed}

-- ---- points of a typing

-- a point between instructions: the types that a branch to each label takes, and the operands of
-- each block that is open, the newest first; of both the innermost block's first, and those of the
-- function's body last. What a block finds below its parameters is of the block outside
pub record Point : Type 0 where
  pub labels : List (List ValType)
  pub stacks : List (List ValType)

-- with this stack in the innermost block
abbrev pub point : Context → (outside : List (List ValType)) → (stack : List ValType) → Point
point c outside stack = record { labels = c.labels; stacks = stack ∷ outside }

-- the instructions before the one at the place lead from a stack to a point; only they are typed. Places
-- are numbered as `ops_at` numbers them
abbrev mutual
  pub Reaches : Context → (outside : List (List ValType)) → Ops → (old : List ValType)
      → (place : ℕ) → Point → Type 0
  Reaches c outside stop old k p = ⊥
  Reaches c outside (next o os) old k p =
      ((k < count o) × OpReaches c outside o old k p)
      ⊎ ((count o ≤ k) × (between : List ValType) × OpTyped c o old between
      × Reaches c outside os between (k - count o) p)

  pub OpReaches : Context → (outside : List (List ValType)) → Op → (old : List ValType)
      → (place : ℕ) → Point → Type 0
  OpReaches c outside o old zero p = p ≡ point c outside old
  OpReaches c outside (simple s) old (suc k) p = ⊥
  OpReaches c outside (block b body) old (suc k) p =
      (t : FuncType) × (rest : List ValType) × (block_type c.types b ≡ Some t)
      × (old ≡ on_top t.params rest)
      × Reaches (under c t.results) (rest ∷ outside) body (reverse t.params) k p
  OpReaches c outside (loop b body) old (suc k) p =
      (t : FuncType) × (rest : List ValType) × (block_type c.types b ≡ Some t)
      × (old ≡ on_top t.params rest)
      × Reaches (under c t.params) (rest ∷ outside) body (reverse t.params) k p
  OpReaches c outside (if' b then_arm else_arm) old (suc k) p =
      (t : FuncType) × (rest : List ValType) × (block_type c.types b ≡ Some t)
      × (old ≡ I32 ∷ on_top t.params rest)
      × (((k < ops_count then_arm)
      × Reaches (under c t.results) (rest ∷ outside) then_arm (reverse t.params) k p)
      ⊎ ((ops_count then_arm ≤ k)
      × Reaches (under c t.results) (rest ∷ outside) else_arm (reverse t.params)
      (k - ops_count then_arm) p))

-- a typing of the whole sequence passes through the point before the instruction at the place
abbrev mutual
  pub Passes : Context → (outside : List (List ValType)) → Ops → (old new : List ValType)
      → (place : ℕ) → Point → Type 0
  Passes c outside stop old new k p = ⊥
  Passes c outside (next o os) old new k p =
      (between : List ValType)
      × (((k < count o) × OpPasses c outside o old between k p × Typed c os between new)
      ⊎ ((count o ≤ k) × OpTyped c o old between × Passes c outside os between new (k - count o) p))

  pub OpPasses : Context → (outside : List (List ValType)) → Op → (old new : List ValType)
      → (place : ℕ) → Point → Type 0
  OpPasses c outside o old new zero p = OpTyped c o old new × (p ≡ point c outside old)
  OpPasses c outside (simple s) old new (suc k) p = ⊥
  OpPasses c outside (block b body) old new (suc k) p =
      (t : FuncType) × (rest : List ValType) × (block_type c.types b ≡ Some t)
      × (old ≡ on_top t.params rest) × (new ≡ on_top t.results rest)
      × Passes (under c t.results) (rest ∷ outside) body (reverse t.params) (reverse t.results) k p
  OpPasses c outside (loop b body) old new (suc k) p =
      (t : FuncType) × (rest : List ValType) × (block_type c.types b ≡ Some t)
      × (old ≡ on_top t.params rest) × (new ≡ on_top t.results rest)
      × Passes (under c t.params) (rest ∷ outside) body (reverse t.params) (reverse t.results) k p
  OpPasses c outside (if' b then_arm else_arm) old new (suc k) p =
      (t : FuncType) × (rest : List ValType) × (block_type c.types b ≡ Some t)
      × (old ≡ I32 ∷ on_top t.params rest) × (new ≡ on_top t.results rest)
      × (((k < ops_count then_arm)
      × Passes (under c t.results) (rest ∷ outside) then_arm (reverse t.params)
      (reverse t.results) k p
      × Typed (under c t.results) else_arm (reverse t.params) (reverse t.results))
      ⊎ ((ops_count then_arm ≤ k)
      × Typed (under c t.results) then_arm (reverse t.params) (reverse t.results)
      × Passes (under c t.results) (rest ∷ outside) else_arm (reverse t.params)
      (reverse t.results) (k - ops_count then_arm) p))

-- ---- places of a module

-- the function with this index, imports counted first, is of the module's own
abbrev pub IsOwn : Module → (func : ℕ) → Func → Type 0
IsOwn m func f =
    (length m.imports ≤ func) × (slice_get m.funcs (func - length m.imports) ≡ Some f)

-- there is an instruction at this place of a function's body
abbrev pub IsPlace : Module → (func place : ℕ) → Type 0
IsPlace m func place =
    (f : Func) × (o : Op) × IsOwn m func f × (ops_at f.body place ≡ Some o)

-- the instructions of a function's body before this place lead from no operands to this point
abbrev pub ReachesAt : Module → (func place : ℕ) → Point → Type 0
ReachesAt m func place p =
    (f : Func) × (t : FuncType) × IsOwn m func f × (slice_get m.types f.type_index ≡ Some t)
    × Reaches (body_context m t f) [] f.body [] place p

-- a typing of a function's body, from no operands to its results, passes through this point before
-- this place
abbrev pub PassesAt : Module → (func place : ℕ) → Point → Type 0
PassesAt m func place p =
    (f : Func) × (t : FuncType) × IsOwn m func f × (slice_get m.types f.type_index ≡ Some t)
    × Passes (body_context m t f) [] f.body [] (reverse t.results) place p

-- ---- what is known of a point

-- what is known of a block's operands: their types, the newest first, and None for one that may be of
-- any type; and whether the point cannot be reached: then operands of any types may be below
pub record Stack : Type 0 where
  pub unreachable : Bool
  pub types : List (Option ValType)

-- what is known of a point, in its order
pub record Known : Type 0 where
  pub labels : List (List ValType)
  pub stacks : List Stack

-- an operand that is not known is of any type
abbrev pub IsOf : Option ValType → ValType → Type 0
IsOf None t = Unit {0}
IsOf (Some u) t = u ≡ t

-- below the operands of an unreachable point there may be any others
abbrev pub MatchTypes : (unreachable : Bool) → List (Option ValType) → List ValType → Type 0
MatchTypes true [] ts = Unit {0}
MatchTypes false [] ts = ts ≡ []
MatchTypes unreachable (x ∷ xs) [] = ⊥
MatchTypes unreachable (x ∷ xs) (t ∷ ts) = IsOf x t × MatchTypes unreachable xs ts

abbrev pub Matches : Stack → List ValType → Type 0
Matches s ts = MatchTypes s.unreachable s.types ts

-- what is known is so at this point
abbrev pub MatchPoint : Known → Point → Type 0
MatchPoint k p = (k.labels ≡ p.labels) × AllZip Matches k.stacks p.stacks
