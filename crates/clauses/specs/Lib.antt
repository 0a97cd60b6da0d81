pub mod Firsts
pub mod Joins
