pub mod Inside
pub mod Peek
