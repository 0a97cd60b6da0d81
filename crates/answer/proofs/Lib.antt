-- Laws of an answer's bytes.
pub mod Fills
