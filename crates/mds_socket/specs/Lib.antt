-- Definitions that the contracts cite.
pub mod Laws
pub mod Numbers
pub mod Retries
pub mod Tables
