-- Lemmas of this crate.
pub mod WordsLemmas
pub mod AskedLemmas
pub mod CutLemmas
