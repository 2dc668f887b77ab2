use Rattle.wasm_binary.proofs.Minimality.{number_least, signed_least}
use Rattle.wasm_binary.proofs.laws.canonical_numbers_are_shortest.Goals as goal

pub returns-clause-unsigned : goal.returns-clause-unsigned
returns-clause-unsigned c = number_least

pub returns-clause-signed : goal.returns-clause-signed
returns-clause-signed c = signed_least 4 32

pub returns-clause-long : goal.returns-clause-long
returns-clause-long c = signed_least 9 64
