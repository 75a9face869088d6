-- Definitions that the contracts cite.
pub mod Call
pub mod Read
pub mod Write
pub mod Page
