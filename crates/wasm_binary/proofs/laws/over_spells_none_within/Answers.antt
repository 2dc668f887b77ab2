use Rattle.wasm_binary.proofs.DecodeClauses.{none_within}
use Rattle.wasm_binary.proofs.LimitComplete.{read_over}
use Rattle.wasm_binary.proofs.laws.over_spells_none_within.Goals as goal

pub returns : goal.returns
returns c = λ bytes over. none_within bytes (read_over bytes over)
