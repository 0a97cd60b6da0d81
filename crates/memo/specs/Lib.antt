pub mod Visit
pub mod Closure
