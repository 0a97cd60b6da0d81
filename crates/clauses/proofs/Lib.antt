-- What the code of clauses rests on.
pub mod Firsts
pub mod Joins
pub mod Written
pub mod Stored
