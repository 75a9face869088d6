pub mod Ends
pub mod Names
pub mod Replays
pub mod Walks
