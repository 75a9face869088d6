-- Definitions that the contracts cite.
pub mod Fault
pub mod Form
pub mod Behind
pub mod Stream
pub mod Entries
pub mod Laws
