pub mod ContentLemmas
pub mod LeaseLemmas
pub mod StoreLemmas
