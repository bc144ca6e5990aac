pub mod Dispatches
pub mod EnoughNames
pub mod FoundWords
mod Rows
mod RowsOfSessions
pub mod Runs
pub mod Served
pub mod Talks
