pub mod Lists
pub mod Cells
pub mod Steps
pub mod Retiring
