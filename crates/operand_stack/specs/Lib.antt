pub mod Stack
pub mod Inside
