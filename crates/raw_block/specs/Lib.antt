pub mod Deeds
pub mod Starts
