-- Lemmas of this crate.
pub mod CallLemmas
pub mod ConnectionLemmas
pub mod FleetLemmas
pub mod KeptLemmas
pub mod ListedLemmas
pub mod ReadingLemmas
pub mod VehicleLemmas
