-- What only private clauses name.
pub mod KnownPlaces
pub mod OpenBlocks
pub mod Typed
