pub mod Record
pub mod Steps
pub mod Writing
pub mod Truth
pub mod Written
pub mod Rooms
