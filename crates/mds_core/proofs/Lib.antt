pub mod Standings
pub mod Stuck
pub mod Outcomes
pub mod Histories
pub mod RunLaws
pub mod OfTheirKind
pub mod Blanks
pub mod ListedEvents
