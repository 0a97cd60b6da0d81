pub mod Entries
pub mod Sorts
