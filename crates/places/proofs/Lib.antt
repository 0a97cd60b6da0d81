pub mod Cases
pub mod Collected
pub mod Turns
pub mod Within
