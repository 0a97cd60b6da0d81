-- What is read from the table of the nodes.
pub mod Sides
pub mod WindowCases
pub mod Reading
pub mod Growing
