use Rattle.std.proofs.Common.{refl, arith, inl, inr}
use Rattle.wasm_binary.proofs.CanonicalSpells.{block_type_spells}
use Rattle.wasm_binary.proofs.BlockTypes.{one_block_type, block_type_least}
use Rattle.wasm_binary.proofs.laws.block_types_have_three_forms.Goals as goal

pub returns-clause-short : goal.returns-clause-short
returns-clause-short c = λ rest. (inl (omega arith, inl (omega arith, omega arith, refl), refl), omega arith)

pub returns-clause-long : goal.returns-clause-long
returns-clause-long c = λ rest. (
  inr (
    omega arith,
    omega arith,
    omega arith,
    0,
    inl (omega arith, inl (omega arith, omega arith, refl), refl),
    omega arith,
  ),
  omega arith,
)

pub returns-clause-long_63 : goal.returns-clause-long_63
returns-clause-long_63 c = λ rest. (
  inr (
    omega arith,
    omega arith,
    omega arith,
    0,
    inl (omega arith, inl (omega arith, omega arith, refl), refl),
    omega arith,
  ),
  omega arith,
)

pub returns-clause-long_64 : goal.returns-clause-long_64
returns-clause-long_64 c = λ rest. (
  inr (
    omega arith,
    omega arith,
    omega arith,
    0,
    inr (
      omega arith,
      omega arith,
      omega arith,
      0,
      inl (omega arith, inl (omega arith, omega arith, refl), refl),
      omega arith,
    ),
    omega arith,
  ),
  omega arith,
)

pub returns-clause-encodings : goal.returns-clause-encodings
returns-clause-encodings c = block_type_spells

pub returns-clause-shortest : goal.returns-clause-shortest
returns-clause-shortest c = block_type_least

pub returns-clause-one : goal.returns-clause-one
returns-clause-one c = one_block_type
