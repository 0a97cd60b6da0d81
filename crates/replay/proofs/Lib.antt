-- Laws of the comparison with a recorded answer.
pub mod Recorded
