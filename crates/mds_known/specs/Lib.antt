pub use Rattle.mds_core.specs.History
pub mod Kept
