pub mod Record
pub mod Calls
pub mod DiskFile
pub mod Fault
pub mod NameCalls
pub mod NewFile
pub mod Followed
