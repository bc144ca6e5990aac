pub mod Adding
pub mod Answered
pub mod Changing
pub mod Filling
pub mod Firing
pub mod FirstReports
pub mod Following
pub mod Forgetting
pub mod Granting
pub mod Holding
pub mod Indexing
pub mod Once
pub mod PassedPlaces
pub mod PassedPoints
pub mod Passing
pub mod Plainly
pub mod Repeating
pub mod RightLines
mod Rows
mod RowsOfFiring
mod RowsOfLines
mod RowsOfReports
mod RowsOfSessions
mod RowsOfWants
pub mod Standing
pub mod Trying
pub mod Wanting
