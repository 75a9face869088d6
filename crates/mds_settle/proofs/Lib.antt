pub mod Lowering
pub mod Orders
pub mod Entries
pub mod Counts
pub mod Judged
