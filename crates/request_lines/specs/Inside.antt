-- What only private clauses name.
pub mod Parse
pub mod Values
pub mod States
pub mod Rows
pub mod Pieces
