-- What the code of requests rests on.
pub mod Grow
pub mod Served
pub mod Named
pub mod Numbers
pub mod Flags
pub mod Asks
pub mod Steps
