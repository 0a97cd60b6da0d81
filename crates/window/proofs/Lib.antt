-- The records of a window, as the code writes them.
pub mod Totals
pub mod Windows
