pub mod Beginnings
mod Found
mod RowsOfLines
mod RowsOfTexts
mod Steps
pub mod Tags
pub mod Telling
mod WordCounts
mod WorkedRows
