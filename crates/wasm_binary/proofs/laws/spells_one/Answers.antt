use Rattle.wasm_binary.proofs.DecodeClauses.{one_module}
use Rattle.wasm_binary.proofs.laws.spells_one.Goals as goal

pub returns : goal.returns
returns c = one_module
