-- Lemmas of this crate.
pub mod ReadLemmas
pub mod WriteLemmas
pub mod PageLemmas
