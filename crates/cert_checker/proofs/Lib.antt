pub mod Cutting
pub mod Dealt
pub mod Ending
pub mod Rows
pub mod Steps
pub mod Visiting
pub mod Whole
