-- Laws of a play over tables.
pub mod Next
pub mod Going
pub mod Begin
pub mod Heads
pub mod Answered
pub mod Told
