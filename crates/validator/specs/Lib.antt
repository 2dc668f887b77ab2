pub mod Typing
pub mod PlaceTypes
pub mod SequenceTypes
pub mod Faults
pub mod Worked
pub mod Inside
