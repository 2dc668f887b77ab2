pub mod Crosses
pub mod ContentLemmas
pub mod RowLemmas
pub mod ViewLemmas
pub mod WordLemmas
