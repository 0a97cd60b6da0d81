-- The records of a clause and a window's summands, as the code writes them.
pub mod ClauseRecords
pub mod ClauseRecordsCases
pub mod Summands
