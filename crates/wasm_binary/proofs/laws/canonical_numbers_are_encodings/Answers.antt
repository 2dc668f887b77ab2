use Rattle.std.proofs.Common.{arith}
use Rattle.wasm_binary.proofs.CanonicalNumbers.{number_spells, signed_spells}
use Rattle.wasm_binary.proofs.laws.canonical_numbers_are_encodings.Goals as goal

pub returns-clause-unsigned : goal.returns-clause-unsigned
returns-clause-unsigned c = number_spells

pub returns-clause-signed : goal.returns-clause-signed
returns-clause-signed c = λ n rest small. signed_spells 4 32 n rest small (omega arith) (omega arith)

pub returns-clause-long : goal.returns-clause-long
returns-clause-long c = λ n rest small. signed_spells 9 64 n rest small (omega arith) (omega arith)
