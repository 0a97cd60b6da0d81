-- What the code of the clauses of a value rests on.
pub mod Splits
pub mod Ready
