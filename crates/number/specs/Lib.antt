-- What a number's bytes are, and what reading and writing them comes to.
pub mod Number
