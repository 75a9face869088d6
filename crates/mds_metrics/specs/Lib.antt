-- Definitions that the contracts cite.
pub mod Text
pub mod Answers
