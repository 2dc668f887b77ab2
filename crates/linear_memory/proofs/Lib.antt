pub mod Crosses
pub mod OwnerLemmas
pub mod WordLemmas
pub mod ZeroLemmas
