pub mod Windows
pub mod Rows
