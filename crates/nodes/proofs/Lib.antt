-- Laws of the table of the nodes.
pub mod Placing
pub mod Leaves
pub mod Literals
pub mod Adding
pub mod Joining
pub mod Windows
