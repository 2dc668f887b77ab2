use Rattle.std.proofs.Common.{◌∷◌, refl, inl, inr}
use Rattle.wasm_ast.specs.declared.instr.Simple.TheVariants.{Drop}
use Rattle.wasm_ast.specs.declared.instr.BlockType.TheVariants.{Empty}
use Rattle.wasm_ast.specs.Syntax.{simple, stop, next}
use Rattle.wasm_binary.specs.Limits.{TooDeep}
use Rattle.wasm_binary.proofs.laws.depth_is_met_at_the_opcode.Goals as goal

pub returns-clause-block : goal.returns-clause-block
unfolding TooDeep
returns-clause-block c =
    λ rest. (next (simple Drop) stop, 0x02, rest, (0x02 ∷ rest, (0x02 ∷ rest, refl, refl), refl), inl refl)

pub returns-clause-iteration : goal.returns-clause-iteration
unfolding TooDeep
returns-clause-iteration c =
    λ rest. (next (simple Drop) stop, 0x03, rest, (0x03 ∷ rest, (0x03 ∷ rest, refl, refl), refl), inr (inl refl))

pub returns-clause-choice : goal.returns-clause-choice
unfolding TooDeep
returns-clause-choice c =
    λ rest. (next (simple Drop) stop, 0x04, rest, (0x04 ∷ rest, (0x04 ∷ rest, refl, refl), refl), inr (inr refl))

pub returns-clause-inside : goal.returns-clause-inside
unfolding TooDeep
returns-clause-inside c = λ rest. (
  stop,
  0x03 ∷ 0x40 ∷ 0x02 ∷ rest,
  0x02 ∷ rest,
  refl,
  (0x03, 0x40 ∷ 0x02 ∷ rest, Empty, refl, inr (inl refl), refl),
  inl (stop, 0x02, rest, refl, inl refl),
)

pub returns-clause-in_else : goal.returns-clause-in_else
unfolding TooDeep
returns-clause-in_else c = λ rest. (
  stop,
  0x04 ∷ 0x40 ∷ 0x05 ∷ 0x02 ∷ rest,
  0x05 ∷ 0x02 ∷ rest,
  refl,
  (0x04, 0x40 ∷ 0x05 ∷ 0x02 ∷ rest, Empty, refl, inr (inr refl), refl),
  inr (0x40 ∷ 0x05 ∷ 0x02 ∷ rest, refl, stop, 0x02 ∷ rest, refl, (stop, 0x02, rest, refl, inl refl)),
)
