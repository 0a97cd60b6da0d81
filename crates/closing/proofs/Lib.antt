-- What the record of a close has.
pub mod Counting
pub mod Marks
