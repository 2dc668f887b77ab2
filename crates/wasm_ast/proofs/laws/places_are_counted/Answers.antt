use Rattle.wasm_ast.proofs.PlaceLemmas.{ops_counted}
use Rattle.wasm_ast.proofs.laws.places_are_counted.Goals as goal

pub returns : goal.returns
returns c = ops_counted
