pub mod Compaction
pub mod Path
pub mod Passes
pub mod Cutting
pub mod Laws
