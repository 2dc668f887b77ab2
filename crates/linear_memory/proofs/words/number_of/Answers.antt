use Rattle.std.proofs.Common.{◌≡◌, ◌++◌, ◌∙◌, ap, arith, length, take, drop, replicate}
use Rattle.linear_memory.specs.Memory.{little_endian}
use Rattle.linear_memory.proofs.ZeroLemmas.{filled_word, number_below}
use Rattle.linear_memory.proofs.words.number_of.Goals as goal

number : (c : goal.After-number_of_eight) → c.number_of_eight.result ≡ little_endian c.args.bytes.now
number c =
    c.number_of_eight.ensures ∙ (ap (λ u. little_endian (take 8 (u ++ drop (length c.args.bytes.now) (replicate 8 0))))
    c.copy_from_slice.ensures.after ∙ filled_word c.args.bytes.now c.requires)

pub returns-clause-number : goal.returns-clause-number
returns-clause-number c = number c

pub returns-clause-range : goal.returns-clause-range
returns-clause-range c =
    let small = number_below c.args.bytes.now (λ i. omega (arith, c.type_inv.bytes i)) in
    omega (arith, number c, small)
