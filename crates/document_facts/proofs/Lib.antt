pub mod Adding
mod Contained
mod Counting
mod Extremes
mod Kept
mod Rows
pub mod Tests
