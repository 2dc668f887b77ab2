use Rattle.wasm_binary.proofs.SpelledModules.{spelled_ranged, spelled_locals}
use Rattle.wasm_binary.proofs.laws.spells_ranged.Goals as goal

pub returns-clause-numbers : goal.returns-clause-numbers
returns-clause-numbers c = spelled_ranged

pub returns-clause-locals : goal.returns-clause-locals
returns-clause-locals c = spelled_locals
