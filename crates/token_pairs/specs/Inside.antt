-- What only private clauses and invariants name.
pub mod Halves
