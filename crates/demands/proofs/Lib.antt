-- The proofs of the three demands and of what the requests say of whole scripts, and the worked cases.
pub mod Holds
pub mod Demand1
pub mod Demand2
pub mod Demand3
pub mod Needed
pub mod Fields
pub mod Windows
pub mod Leaves
pub mod Shared
pub mod Cases
pub mod Worked
pub mod WorkedShared
