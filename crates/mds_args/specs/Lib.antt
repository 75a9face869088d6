-- Definitions that the contracts cite.
pub mod Words
pub mod Error
