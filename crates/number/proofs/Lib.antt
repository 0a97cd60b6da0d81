-- The laws of numbers, for whoever reads or writes them, and worked cases.
pub mod Laws
pub mod Places
pub mod Cases
