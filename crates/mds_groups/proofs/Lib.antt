-- Lemmas of this crate.
pub mod LengthLemmas
pub mod JournalLemmas
pub mod ChangeLemmas
pub mod BurstLemmas
pub mod StreamLemmas
pub mod EntryLemmas
pub mod BehindLemmas
