mod Steps
pub mod TimeRows
