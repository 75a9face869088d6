pub use Rattle.mds_core.specs.History
pub mod Pieces
pub mod Shared
pub mod Packed
pub mod PackedLaws
pub mod Past
