pub mod Limits
pub mod Memory
