-- Lemmas of this crate.
pub mod ErrorLemmas
pub mod BatchProblems
pub mod OpenedLemmas
pub mod PrintLemmas
pub mod FedLemmas
-- Of the list of a journal's vehicles.
pub mod NameLemmas
pub mod Pushed
pub mod TakingLemmas
pub mod GateLemmas
pub mod ListingLemmas
pub mod PlaceLemmas
