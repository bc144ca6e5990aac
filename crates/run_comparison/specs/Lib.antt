pub mod Columns
pub mod Csv
pub mod Sides
pub mod Times
pub mod Unchanged
