-- An instruction of a sequence has no more instructions than the sequence, those before it included; and
-- the place of an error in it is in the sequence.
use Rattle.std.proofs.Common.{Result, Err, ℕ, zero, suc, ◌<◌, ◌≤◌, List, [], ◌∷◌, length, map, take, get_or, arith, refl, ◌≡◌, ◌+◌}
use Rattle.wasm_ast.specs.declared.instr.Instr.{Instr}
use Rattle.wasm_ast.specs.Syntax.{count, ops_count, ops_of}
use Rattle.wasm_ast.specs.View.{op_of}
use Rattle.validator.specs.declared.check_error.BodyError.{BodyError}
use Rattle.validator.specs.declared.check_error.BodyError.TheVariants.{Invalid, Memory}
use Rattle.validator.specs.Inside.CheckErrors.{IsLater}

pub item_le_count :
    (is : List Instr) (k : ℕ) (i : Instr) → k < length is
    → count (op_of (get_or is k i)) ≤ ops_count (ops_of (map op_of is))
item_le_count [] k i h = absurd (omega arith)
item_le_count (x ∷ xs) zero i h = omega arith
item_le_count (x ∷ xs) (suc k) i h = let rest = item_le_count xs k i (omega arith) in omega (arith, rest)

pub before_le_count :
    (is : List Instr) (k : ℕ) (i : Instr) → k < length is
    → ops_count (ops_of (map op_of (take k is))) + count (op_of (get_or is k i)) ≤ ops_count (ops_of (map op_of is))
before_le_count [] k i h = absurd (omega arith)
before_le_count (x ∷ xs) zero i h = omega arith
before_le_count (x ∷ xs) (suc k) i h = let rest = before_le_count xs k i (omega arith) in omega (arith, rest)

abbrev given : BodyError → Result (Unit {0}) BodyError
given e = Err e

pub err_same : (e f : BodyError) → given e ≡ given f → e ≡ f
err_same e f h = cc

-- an error at a place below n is, once it is counted from further front, below n and what is before it
pub later_place :
    (by n : ℕ) (old new : BodyError) (at : ℕ) → IsLater by old new → new ≡ Invalid at
    → ((k : ℕ) → old ≡ Invalid k → k < n) → at < by + n
later_place by n (Invalid k) (Invalid j) at later is below =
    let here = below k refl in
    let same : j ≡ at = cc in
    omega (arith, here, same, later)
later_place by n (Invalid k) Memory at later is below = absurd later
later_place by n Memory (Invalid j) at later is below = absurd later
later_place by n Memory Memory at later is below = cc
