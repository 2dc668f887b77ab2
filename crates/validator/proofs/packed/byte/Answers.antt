use Rattle.std.proofs.Common.{◌≤◌, length, drop, take, ap, arith}
use Rattle.std.proofs.lemmas.List.{drop-drop, length-drop}
use Rattle.validator.specs.Inside.Packed.{packed}
use Rattle.validator.proofs.PackedLemmas.{two_halves}
use Rattle.validator.proofs.packed.byte.Goals as goal

pub returns : goal.returns
returns c =
    let types = drop c.args.at c.args.types.now in
    let some : 4 ≤ length types = omega (arith, c.requires, length-drop c.args.at c.args.types.now) in
    let next = ap (λ ts. packed (take 4 ts)) (drop-drop 4 c.args.at c.args.types.now) in
    omega (arith, two_halves types some, next, c.half.ensures.half, c.half-2.ensures.half)
