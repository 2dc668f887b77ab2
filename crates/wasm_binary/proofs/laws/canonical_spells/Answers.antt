use Rattle.wasm_binary.proofs.CanonicalSpells.{canon_spells}
use Rattle.wasm_binary.proofs.laws.canonical_spells.Goals as goal

pub returns : goal.returns
returns c = canon_spells
