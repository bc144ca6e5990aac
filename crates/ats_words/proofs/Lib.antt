pub mod Asked
pub mod Leaves
mod Parses
mod Rows
