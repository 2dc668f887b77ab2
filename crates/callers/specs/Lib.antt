pub mod Answered
pub mod Driving
pub mod Ends
pub mod Inside
