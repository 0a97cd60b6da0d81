-- A log read back, a log written, and the bytes that records take.
pub mod Answers
pub mod Bytes
pub mod Closes
pub mod Decode
pub mod Groups
pub mod Ones
pub mod Steps
pub mod Sums
pub mod Tokens
pub mod Writing
pub mod WrittenCases
pub mod Truth
pub mod TruthCases
