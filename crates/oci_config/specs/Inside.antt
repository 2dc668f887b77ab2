-- What private clauses alone name.
pub mod Parts
