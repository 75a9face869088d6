-- Definitions that the contracts cite.
pub mod Telling
pub mod Place
pub mod Texts
pub mod Lines
pub mod Copying
pub mod Draft
pub mod Compacting
pub mod Rest
pub mod NewJournal
pub mod Events
