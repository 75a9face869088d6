pub mod Members
pub mod Chains
pub mod Sets
pub mod Gathered
pub mod Least
