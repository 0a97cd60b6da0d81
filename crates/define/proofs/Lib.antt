-- What the code of lookups rests on.
pub mod Written
pub mod Simulates
pub mod Slots
pub mod Entries
pub mod Reals
pub mod Defines
pub mod Looks
pub mod Codes
pub mod Windows
pub mod SideLooks
pub mod HeldCases
pub mod Counted
