-- What only private clauses and invariants name.
pub mod Known
pub mod Calls
pub mod Code
pub mod Desks
