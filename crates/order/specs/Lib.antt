pub mod Cases
pub mod Order
