pub mod Causes
pub mod Fits
pub mod Prospects
pub mod Rows
pub mod Seen
pub mod Since
pub mod Waiting
pub mod Yards
