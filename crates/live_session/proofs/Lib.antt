pub mod Ending
pub mod JournalRows
pub mod Requests
mod Rows
mod RowsOfJournals
pub mod Standing
pub mod Tagging
pub mod Telling
pub mod Texts
