-- Lemmas of this crate.
pub mod SlotLemmas
pub mod AdmissionLemmas
pub mod LeastLemmas
pub mod PeerLemmas
