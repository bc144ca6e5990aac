pub mod Lossless
pub mod Rows
