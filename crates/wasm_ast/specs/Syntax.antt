-- Instructions as the abstract syntax of modules has them (2.4), and their places.
use Rattle.std.specs.Prelude.{ℕ, zero, suc, ◌+◌, ◌-◌, nat_lt, if◌then◌else◌, Option, Some, None, List, [], ◌∷◌}
use Rattle.wasm_ast.specs.declared.instr.Simple.{Simple}
use Rattle.wasm_ast.specs.declared.instr.BlockType.{BlockType}

-- an instruction without a body, or one of the three that have bodies (2.4.5)
mutual
  pub data Op : Type 0 where
    simple : Simple → Op
    block : BlockType → Ops → Op
    loop : BlockType → Ops → Op
    -- with both its arms
    if' : BlockType → Ops → Ops → Op

  -- a sequence of instructions (2.4.6)
  pub data Ops : Type 0 where
    stop : Ops
    next : Op → Ops → Ops

-- how many instructions, those inside blocks included
abbrev mutual
  pub count : Op → ℕ
  count (simple s) = 1
  count (block type body) = 1 + ops_count body
  count (loop type body) = 1 + ops_count body
  count (if' type then_arm else_arm) = 1 + ops_count then_arm + ops_count else_arm

  pub ops_count : Ops → ℕ
  ops_count stop = 0
  ops_count (next o os) = count o + ops_count os

-- the instruction at a place: they are numbered in written order from 0, those inside blocks included,
-- and the else arm's follow the then arm's
abbrev mutual
  pub op_at : Op → ℕ → Option Op
  op_at o zero = Some o
  op_at (simple s) (suc k) = None
  op_at (block type body) (suc k) = ops_at body k
  op_at (loop type body) (suc k) = ops_at body k
  op_at (if' type then_arm else_arm) (suc k) =
      if nat_lt k (ops_count then_arm) then ops_at then_arm k
      else ops_at else_arm (k - ops_count then_arm)

  pub ops_at : Ops → ℕ → Option Op
  ops_at stop k = None
  ops_at (next o os) k = if nat_lt k (count o) then op_at o k else ops_at os (k - count o)

-- a sequence of instructions from a list of them
abbrev pub ops_of : List Op → Ops
ops_of [] = stop
ops_of (o ∷ os) = next o (ops_of os)
