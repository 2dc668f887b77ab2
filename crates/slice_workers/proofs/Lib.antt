pub mod MergeLemmas
pub mod MergeLaws
