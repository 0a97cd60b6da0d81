-- A script of which no more was kept than a script may have, and one byte.
pub mod Kept
