-- Trees within the limits of frames and values, and beyond them.
use Rattle.std.proofs.Common.{◌≡◌, ℕ, ◌+◌, ◌<◌, ◌≤◌, true, false, nat_lt, refl, arith}
use Rattle.std.proofs.lemmas.Bool.Decides.{nat_tests}
use Rattle.wasm_ast.specs.declared.trap.Trap.TheVariants as trap
use Rattle.wasm_ast.specs.Syntax.{Ops, stop, next, count}
use Rattle.step_machine.specs.Limits.{max_frames, max_values}
use Rattle.step_machine.specs.Configuration.{Tree, items_of, running, trapped, frames, values, items_frames, items_values}
use Rattle.step_machine.specs.Reduction.{limited}

pub plain_frames : (k : ℕ) (os : Ops) → items_frames (items_of k os) ≡ 0
plain_frames k stop = refl
plain_frames k (next o os) = rw (plain_frames (k + count o) os)

pub plain_values : (k : ℕ) (os : Ops) → items_values (items_of k os) ≡ 0
plain_values k stop = refl
plain_values k (next o os) = rw (plain_values (k + count o) os)

pub within : (t : Tree) → frames t ≤ max_frames → values t ≤ max_values → limited t ≡ running t
within t f v =
    let a : nat_lt max_frames (frames t) ≡ false = grind (arith, nat_tests) in
    let b : nat_lt max_values (values t) ≡ false = grind (arith, nat_tests) in
    rw (a, b)

pub beyond : (t : Tree) → frames t ≤ max_frames → max_values < values t → limited t ≡ trapped trap.Exhausted
beyond t f v =
    let a : nat_lt max_frames (frames t) ≡ false = grind (arith, nat_tests) in
    let b : nat_lt max_values (values t) ≡ true = grind (arith, nat_tests) in
    rw (a, b)
