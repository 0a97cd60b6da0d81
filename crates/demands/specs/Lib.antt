pub mod Demands
pub mod Needed
pub mod Fields
pub mod Windows
pub mod Leaves
pub mod Shared
pub mod Cases
