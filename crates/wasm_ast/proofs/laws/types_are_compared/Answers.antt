use Rattle.wasm_ast.proofs.SameTypes.{decides_type, decides_types}
use Rattle.wasm_ast.proofs.laws.types_are_compared.Goals as goal

pub returns-clause-one : goal.returns-clause-one
returns-clause-one c = decides_type

pub returns-clause-lists : goal.returns-clause-lists
returns-clause-lists c = decides_types
