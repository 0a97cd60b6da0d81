pub mod Store
pub mod Represents
pub mod Lookups
