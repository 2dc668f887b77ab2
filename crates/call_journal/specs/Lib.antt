pub mod Finding
pub mod Replay
pub mod Records
pub mod Fronts
pub mod Seats
pub mod Books
pub mod Desks
pub mod Inside
