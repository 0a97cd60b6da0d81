pub mod Window
pub mod Derivations
