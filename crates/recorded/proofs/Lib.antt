-- The definitions held to recorded answers.
pub mod Answers
