pub use Rattle.mds_core.specs.Machine
pub mod Replay
pub mod Walk
