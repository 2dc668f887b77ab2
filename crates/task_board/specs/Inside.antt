-- What only private clauses and invariants name.
pub mod Machines
pub mod Shown
pub mod Kept
pub mod Changes
pub mod Marks
pub mod StoreChanges
pub mod OpenedModules
pub mod Plans
pub mod Covers
pub mod Code
