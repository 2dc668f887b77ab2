pub mod KnownPoints
pub mod OpenLemmas
pub mod ToldFrames
pub mod TypedLemmas
pub mod KnownLemmas
