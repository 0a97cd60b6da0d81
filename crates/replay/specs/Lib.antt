-- What it is to meet a recorded answer.
pub mod Compare
