pub mod AcceptedTables
pub mod JournalRows
pub mod RefusedJournals
pub mod Rows
pub mod Samples
