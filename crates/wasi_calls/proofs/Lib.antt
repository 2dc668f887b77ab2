pub mod RangeLemmas
pub mod TextLemmas
pub mod BufferLemmas
pub mod HostLemmas
