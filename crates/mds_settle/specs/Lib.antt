pub use Rattle.mds_core.specs.Answer
pub use Rattle.mds_core.specs.Headline
pub use Rattle.mds_core.specs.Lawful
pub mod Notes
pub mod Settled
pub mod Faults
pub mod Bounds
