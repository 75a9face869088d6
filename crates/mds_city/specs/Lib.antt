-- Definitions that the contracts cite.
pub mod Host
pub mod Journal
pub mod Outcome
pub mod Program
pub mod Serve
pub mod CompactText
pub mod Compact
pub mod Follow
pub mod Cuts
