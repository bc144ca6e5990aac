pub mod Called
pub mod Rows
