use Rattle.wasm_binary.proofs.CanonicalSpells.{one_run}
use Rattle.wasm_binary.proofs.laws.locals_have_encodings.Goals as goal

pub returns : goal.returns
returns c = one_run
