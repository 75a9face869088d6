-- Definitions that the contracts cite.
pub mod Pool
pub mod Recording
pub mod Serving
pub mod Workers
