pub mod Crosses
pub mod Rows
