-- Definitions that the contracts cite.
pub mod Text
pub mod Status
pub mod Problem
pub mod Source
pub mod Files
pub mod Change
pub mod Command
pub mod Debug
pub mod Events
pub mod Stream
pub mod Torn
-- Of the list of a journal's vehicles.
pub mod Roster
pub mod Listing
pub mod JournalProblem
pub mod Taking
pub mod Gate
pub mod ListingText
