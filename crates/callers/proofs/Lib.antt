pub mod DriveLemmas
pub mod LawLemmas
pub mod PairLemmas
pub mod EndLemmas
