-- Definitions that the contracts cite.
pub mod Least
pub mod Limits
pub mod Looks
pub mod Peers
pub mod Requests
pub mod Waiting
