pub mod Cases
pub mod Walk
