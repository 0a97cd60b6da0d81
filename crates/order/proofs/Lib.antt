pub mod Cases
pub mod Precedes
pub mod Sort
