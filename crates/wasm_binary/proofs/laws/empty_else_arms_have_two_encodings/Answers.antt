use Rattle.std.proofs.Common.{◌∷◌, [], refl, inl, inr}
use Rattle.wasm_binary.proofs.laws.empty_else_arms_have_two_encodings.Goals as goal

pub returns-clause-written : goal.returns-clause-written
returns-clause-written c = (0x40 ∷ 0x05 ∷ 0x0B ∷ [], 0x05 ∷ 0x0B ∷ [], refl, refl, inr (0x0B ∷ [], refl, refl))

pub returns-clause-left_out : goal.returns-clause-left_out
returns-clause-left_out c = (0x40 ∷ 0x0B ∷ [], 0x0B ∷ [], refl, refl, inl (refl, refl))
