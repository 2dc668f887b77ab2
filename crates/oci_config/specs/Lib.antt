pub mod Limits
pub mod Processes
pub mod Streams
pub mod Config
pub mod Setup
pub mod Worked
pub mod Inside
