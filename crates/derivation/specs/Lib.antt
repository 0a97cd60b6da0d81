pub mod Operands
pub mod Summands
