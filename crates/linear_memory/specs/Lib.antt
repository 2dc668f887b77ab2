pub mod Memory
pub mod Inside
