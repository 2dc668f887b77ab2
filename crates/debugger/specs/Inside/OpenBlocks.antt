-- The blocks that are open in an arm of an `if`, and a list of them.
use Rattle.std.specs.Prelude.{◌≡◌, ℕ, ◌+◌, ◌-◌, nat_lt, if◌then◌else◌, List, ◌∷◌}
use Rattle.std.specs.Global.{Vec}
use Rattle.wasm_ast.specs.Syntax.{Ops, ops_count}
use Rattle.step_machine.specs.Places.{opens_at}

-- at a place that is counted from the start of the first arm, which begins with the number `first`
abbrev pub arm_opens :
    (then_arm else_arm : Ops) → (number first : ℕ) → (outer : List ℕ) → (place : ℕ) → List ℕ
arm_opens then_arm else_arm number first outer k =
    if nat_lt k (ops_count then_arm) then opens_at then_arm first (number ∷ outer) k
    else opens_at else_arm (first + ops_count then_arm) (number ∷ outer) (k - ops_count then_arm)

abbrev pub HasBlocks : List ℕ → Vec ℕ → Type 0
HasBlocks blocks b = b.items ≡ blocks
