-- Definitions that the contracts cite.
pub mod Parts
pub mod Record
pub mod Group
pub mod Restart
pub mod Lives
pub mod Disk
pub mod End
pub mod Reading
pub mod Pieces
