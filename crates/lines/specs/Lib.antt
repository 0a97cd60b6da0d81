pub mod Cases
pub mod Printed
pub mod Same
pub mod Sheet
