pub mod Cases
pub mod Found
pub mod Played
pub mod Printed
pub mod Same
pub mod Sheets
pub mod Size
