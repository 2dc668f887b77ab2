-- What only private clauses name.
pub mod Writing
pub mod Ends
pub mod Told
