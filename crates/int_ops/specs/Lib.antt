pub mod Integers
pub mod Values
