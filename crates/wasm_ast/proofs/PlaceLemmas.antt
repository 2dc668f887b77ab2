-- Places are the numbers below the count of instructions.
use Rattle.std.proofs.Common.{◌≡◌, ℕ, zero, suc, ◌+◌, ◌-◌, Bool, true, false, nat_lt, cond, Option, is_some, refl, arith}
use Rattle.std.proofs.lemmas.Bool.Decides.{nat_tests}
use Rattle.wasm_ast.specs.Syntax.{Op, simple, block, loop, if', Ops, stop, next, count, ops_count, op_at, ops_at}

either :
    (b : Bool) (x y : Option Op) (whole : Bool) → (b ≡ true → is_some x ≡ whole) → (b ≡ false → is_some y ≡ whole)
    → is_some (cond b x y) ≡ whole
either true x y whole f g = f refl
either false x y whole f g = g refl

mutual
  op_counted : (o : Op) (k : ℕ) → is_some (op_at o k) ≡ nat_lt k (count o)
  op_counted (simple s) zero = refl
  op_counted (block type body) zero = grind (arith, nat_tests)
  op_counted (loop type body) zero = grind (arith, nat_tests)
  op_counted (if' type first second) zero = grind (arith, nat_tests)
  op_counted (simple s) (suc k) = grind (arith, nat_tests)
  op_counted (block type body) (suc k) = let inside = ops_counted body k in grind (arith, nat_tests)
  op_counted (loop type body) (suc k) = let inside = ops_counted body k in grind (arith, nat_tests)
  op_counted (if' type first second) (suc k) =
      let one = ops_counted first k in
      let two = ops_counted second (k - ops_count first) in
      either (nat_lt k (ops_count first)) (ops_at first k) (ops_at second (k - ops_count first))
      (nat_lt (suc k) (1 + ops_count first + ops_count second))
      (λ below. grind (arith, nat_tests)) (λ above. grind (arith, nat_tests))

  pub ops_counted : (os : Ops) (k : ℕ) → is_some (ops_at os k) ≡ nat_lt k (ops_count os)
  ops_counted stop k = grind (arith, nat_tests)
  ops_counted (next o os) k =
      let one = op_counted o k in
      let two = ops_counted os (k - count o) in
      either (nat_lt k (count o)) (op_at o k) (ops_at os (k - count o)) (nat_lt k (count o + ops_count os))
      (λ below. grind (arith, nat_tests)) (λ above. grind (arith, nat_tests))
