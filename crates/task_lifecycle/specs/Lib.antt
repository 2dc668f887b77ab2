pub mod Names
pub mod Lifecycle
