-- Definitions that the contracts cite.
pub mod Desk
pub mod Exchange
pub mod Seats
pub mod Asking
pub mod Faults
pub mod Serving
pub mod Reading
pub mod Laws
pub mod Kept
