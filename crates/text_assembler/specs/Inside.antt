-- What private clauses alone name: no public clause rests on these.
pub mod Answers
pub mod Bodies
pub mod Parts
pub mod Spaces
pub mod Steps
