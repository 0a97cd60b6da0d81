-- What the code of sides and of output lists rests on; the leaves of a table, and those below its nodes.
pub mod Sides
pub mod Listed
pub mod Leaves
pub mod Overlap
pub mod Masks
pub mod BelowCases
