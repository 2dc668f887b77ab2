pub mod Limits
pub use Rattle.wasm_ast.specs.Identifiers
pub mod Digests
pub mod StoreState
pub mod Refusals
pub mod Requests
pub mod StoreValue
pub mod Inside
