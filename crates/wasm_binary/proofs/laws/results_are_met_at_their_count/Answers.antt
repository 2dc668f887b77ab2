use Rattle.std.proofs.Common.{◌∷◌, [], refl, arith, inl, inr}
use Rattle.wasm_binary.proofs.BlockTypes.{results_within}
use Rattle.wasm_binary.proofs.laws.results_are_met_at_their_count.Goals as goal

pub returns-clause-over : goal.returns-clause-over
returns-clause-over c = λ rest. (
  0x00 ∷ 0x81 ∷ 0x08 ∷ rest,
  [],
  0x81 ∷ 0x08 ∷ rest,
  refl,
  (0x81 ∷ 0x08 ∷ rest, inl (omega arith, (omega arith, refl), refl), refl),
  (
    1025,
    rest,
    inr (omega arith, omega arith, omega arith, 8, inl (omega arith, (omega arith, refl), refl), omega arith),
    omega arith,
  ),
)

pub returns-clause-within : goal.returns-clause-within
returns-clause-within c = results_within
