-- Lemmas of this crate.
pub mod EndLemmas
pub mod Growth
pub mod Places
pub mod Rounds
pub mod SeatGrowth
pub mod Unread
