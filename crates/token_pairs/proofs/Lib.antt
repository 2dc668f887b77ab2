pub mod Halves
pub mod Sent
