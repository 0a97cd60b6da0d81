-- The questions in the order of the code, and what a command leaves behind.
pub mod Questions
pub mod CommandEnds
pub mod NodeMore
pub mod Making
pub mod Writes
