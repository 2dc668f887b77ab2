pub mod FunctionTypes
pub mod LimitLemmas
pub mod PlaceLemmas
pub mod SameTypes
