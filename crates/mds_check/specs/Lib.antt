pub mod Crc
pub mod Form
pub mod Laws
