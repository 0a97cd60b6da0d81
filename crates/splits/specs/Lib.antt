pub mod Splits
pub mod Ready
