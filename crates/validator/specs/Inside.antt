-- What only private clauses and the checker's types name.
pub mod Algorithm
pub mod Effects
pub mod PlaceWalk
pub mod EachPlace
pub mod Blocks
pub mod FunctionContext
pub mod CheckErrors
pub mod ModuleTests
pub mod Packed
pub mod Periods
pub mod Labels
pub mod Needs
