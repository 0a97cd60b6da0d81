-- The theory of memoised service.
pub mod Answers
pub mod Booleans
pub mod Lists
pub mod Serve
pub mod Machine
pub mod Memo
pub mod Grow
pub mod Unrolled
