-- The algorithm stopped before an instruction: what it knows there of all blocks that are open.
use Rattle.std.specs.Prelude.{ℕ, zero, suc, ◌-◌, nat_lt, List, [], ◌∷◌, Option, Some, None, if◌then◌else◌}
use Rattle.wasm_ast.specs.declared.values.FuncType.{FuncType}
use Rattle.wasm_ast.specs.Syntax.{Op, simple, block, loop, if', Ops, stop, next, count, ops_count}
use Rattle.wasm_ast.specs.Types.{block_type}
use Rattle.validator.specs.Typing.{Context, under}
use Rattle.validator.specs.PlaceTypes.{Stack, Known}
use Rattle.validator.specs.Inside.Algorithm.{and_then, replaced, after_i32, start, check_op}

-- the place following n instructions, if it is not in them
abbrev pub past : (n place : ℕ) → Option ℕ
past n k = if nat_lt k n then None else Some (k - n)

-- the operands that a block of this type leaves below its own
abbrev pub below : FuncType → Stack → Option Stack
below t s = replaced t.params [] s

abbrev mutual
  pub ops_known : Context → (outside : List Stack) → Ops → Stack → (place : ℕ) → Option Known
  ops_known c outside stop s k = None
  ops_known c outside (next o os) s k =
      if nat_lt k (count o) then op_known c outside o s k
      else and_then (check_op c o s) (λ u. ops_known c outside os u (k - count o))

  pub op_known : Context → (outside : List Stack) → Op → Stack → (place : ℕ) → Option Known
  op_known c outside o s zero = Some (record { labels = c.labels; stacks = s ∷ outside })
  op_known c outside (simple i) s (suc k) = None
  op_known c outside (block b body) s (suc k) =
      and_then (block_type c.types b) (λ t. and_then (below t s)
      (λ u. ops_known (under c t.results) (u ∷ outside) body (start t.params) k))
  op_known c outside (loop b body) s (suc k) =
      and_then (block_type c.types b) (λ t. and_then (below t s)
      (λ u. ops_known (under c t.params) (u ∷ outside) body (start t.params) k))
  op_known c outside (if' b then_arm else_arm) s (suc k) =
      and_then (block_type c.types b) (λ t. and_then (after_i32 (below t) s)
      (λ u. if nat_lt k (ops_count then_arm)
      then ops_known (under c t.results) (u ∷ outside) then_arm (start t.params) k
      else ops_known (under c t.results) (u ∷ outside) else_arm (start t.params)
      (k - ops_count then_arm)))

-- the same in an arm of an `if`
abbrev pub arm_known :
    Context → FuncType → (outside : List Stack) → (then_arm else_arm : Ops) → (place : ℕ)
    → Option Known
arm_known c t outside then_arm else_arm k =
    if nat_lt k (ops_count then_arm) then ops_known c outside then_arm (start t.params) k
    else ops_known c outside else_arm (start t.params) (k - ops_count then_arm)
